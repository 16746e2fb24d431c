-- Which class stands behind class BSS, as the code finds it.
use Rattle.std.proofs.Common.{◌≡◌, ℕ, zero, suc, ◌<◌, true, false, ◌&&◌, eqb, ltb, List, [], ◌∷◌, length, map, get_or}
use Rattle.std.proofs.Common.{Bool, Bor, ◌+◌, take, None, Some, slice_get, refl, ap, sym, ◌∙◌, arith}
use Rattle.std.proofs.lemmas.List.{length-map}
use Rattle.std.proofs.lemmas.Slice.Eq.{bytes_eq-Decides}
use Rattle.std.specs.Prelude.{codes, find}
use Rattle.std.specs.List.{enumerate_from, position_or_len}
use Rattle.std.specs.Str.{bytes_eq}
use Rattle.omf_place.proofs.Finds.{find-more}
use Rattle.omf_order.specs.declared.parts.Part as held
use Rattle.omf_order.specs.Plan.{class_place, is_of, opens_behind_bss}
use Rattle.omf_order.specs.inside.Held.{part_view, parts_view}
use Rattle.omf_order.proofs.FirstMet.{enumerated, places_of}

pub bytes-turn : (xs ys : List ℕ) → bytes_eq xs ys ≡ bytes_eq ys xs
bytes-turn xs ys = (elim (bytes_eq xs ys) as (λ a. bytes_eq xs ys ≡ a → a ≡ bytes_eq ys xs) [
  | true ↦ λ e. sym ((bytes_eq-Decides ys xs).1 (sym ((bytes_eq-Decides xs ys).0 e)))
  | false ↦ λ e. (elim (bytes_eq ys xs) as (λ b. bytes_eq ys xs ≡ b → false ≡ b) [
    | true ↦ λ f. sym e ∙ (bytes_eq-Decides xs ys).1 (sym ((bytes_eq-Decides ys xs).0 f))
    | false ↦ λ f. refl
  ]) refl
]) refl

-- what each of a list gives, at a place
pub mapped_at : {X Y : Type 0} (f : X → Y) (xs : List X) (i : ℕ) (d : X) (e : Y) → i < length xs
    → get_or (map f xs) i e ≡ f (get_or xs i d)
mapped_at f [] i d e h = absurd (omega arith)
mapped_at f (x ∷ xs) zero d e h = refl
mapped_at f (x ∷ xs) (suc i) d e h = mapped_at f xs i d e (omega arith)

pub viewed_at : {X Y : Type 0} (f : X → Y) (xs : List X) (i : ℕ) (d : X) → i < length xs
    → slice_get (map f xs) i ≡ Some (f (get_or xs i d))
viewed_at f [] i d h = absurd (omega arith)
viewed_at f (x ∷ xs) zero d h = refl
viewed_at f (x ∷ xs) (suc i) d h = viewed_at f xs i d (omega arith)

module _ (ps : List held.Part) (i : ℕ) (d : held.Part) (h : i < length ps) where
  -- a part with its place
  pub numbered : slice_get (enumerate_from 0 (parts_view ps)) i ≡ Some (i, part_view (get_or ps i d))
  numbered = enumerated 0 (parts_view ps) i i (part_view (get_or ps i d)) (viewed_at part_view ps i d h) (omega arith)

  -- what the code tests of it
  pub tested : (fs : List ℕ) (bss : ℕ) →
      fs ≡ map (λ p. class_place p.class (parts_view ps)) (parts_view ps) →
      bss ≡ class_place (codes "BSS") (parts_view ps) →
      (ltb bss i && eqb (get_or fs i 0) i) ≡ opens_behind_bss (parts_view ps) (i, part_view (get_or ps i d))
  tested fs bss ef eb =
      let P = parts_view ps in
      let at : get_or fs i 0 ≡ class_place (part_view (get_or ps i d)).class P =
      ap (λ xs. get_or xs i 0) ef ∙ places_at ps i d h in
      ap (λ b. ltb b i && eqb (get_or fs i 0) i) eb ∙ ap (λ n. ltb (class_place (codes "BSS") P) i && eqb n i) at
    where
      places_at : (ps : List held.Part) (i : ℕ) (d : held.Part) → i < length ps
          → get_or (map (λ p. class_place p.class (parts_view ps)) (parts_view ps)) i 0
          ≡ class_place (part_view (get_or ps i d)).class (parts_view ps)
      places_at ps i d h =
          mapped_at (λ p. class_place p.class (parts_view ps)) (parts_view ps) i (part_view d) 0
          (let l = length-map ps part_view in omega (arith, h, l))
          ∙ ap (λ p. class_place p.class (parts_view ps)) (mapped_at part_view ps i d (part_view d) h)

-- one that doesn't pass it
pub next_kept : (ps : List held.Part) (fs : List ℕ) (bss i : ℕ) → i < length ps →
    fs ≡ map (λ p. class_place p.class (parts_view ps)) (parts_view ps) →
    bss ≡ class_place (codes "BSS") (parts_view ps) → (ltb bss i && eqb (get_or fs i 0) i) ≡ false →
    find (opens_behind_bss (parts_view ps)) (take i (enumerate_from 0 (parts_view ps))) ≡ None →
    find (opens_behind_bss (parts_view ps)) (take (i + 1) (enumerate_from 0 (parts_view ps))) ≡ None
next_kept [] fs bss i h ef eb t none = absurd (omega (arith, h))
next_kept (p ∷ ps) fs bss i h ef eb t none =
    let all = p ∷ ps in
    find-more (opens_behind_bss (parts_view all)) (enumerate_from 0 (parts_view all)) i
    (i, part_view (get_or all i p)) (numbered all i p h) none (sym (tested all i p h fs bss ef eb) ∙ t)

-- where the classes of the parts are first met
pub classes_met : (eq : Bor (List ℕ) → Bor (List ℕ) → Bool) →
    ((x y : Bor (List ℕ)) → eq x y ≡ bytes_eq y.now x.now) →
    (ps : List held.Part) (asked known : List (Bor (List ℕ))) →
    asked ≡ map (λ (p : held.Part). p.class) ps → known ≡ map (λ (p : held.Part). p.class) ps →
    map (λ k. position_or_len (eq k) known) asked
    ≡ map (λ p. class_place p.class (parts_view ps)) (parts_view ps)
classes_met eq is ps asked known ea ek =
    places_of eq (λ (p : held.Part). p.class) part_view (λ a b. is_of a.class b) (λ x y. is x.class y.class) asked known
    ps ps ea ek
