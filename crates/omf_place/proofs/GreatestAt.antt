-- The greatest value at a place, one value after the other, and as the greatest of the sites that combine.
use Rattle.std.proofs.Common.{◌≡◌, ℕ, zero, suc, ◌+◌, ◌<◌, ◌≤◌, max, true, false, cond, eqb, eq-eqb, List, [], ◌∷◌}
use Rattle.std.proofs.Common.{◌++◌, length, take, get_or, set, length-take, refl, ap, sym, ◌∙◌, arith, subst}
use Rattle.std.proofs.lemmas.List.{take_more, get_or-set_same, get_or-set_other}
use Rattle.std.proofs.lemmas.Bool.{eqb-true}
use Rattle.std.specs.List.{AllByRecursion}
use Rattle.omf_place.specs.inside.Greatest.{greatest_at}

greatest_at-push : (fs vs : List ℕ) (f v k : ℕ) → length vs ≡ length fs
    → greatest_at (fs ++ f ∷ []) (vs ++ v ∷ []) k ≡ max (greatest_at fs vs k) (cond (eqb f k) v 0)
greatest_at-push [] [] f v k e = omega arith
greatest_at-push [] (w ∷ ws) f v k e = absurd (omega arith)
greatest_at-push (x ∷ xs) [] f v k e = absurd (omega arith)
greatest_at-push (x ∷ xs) (w ∷ ws) f v k e = let h = greatest_at-push xs ws f v k (omega arith) in omega (arith, h)

length_front : (xs : List ℕ) (i : ℕ) → i ≤ length xs → length (take i xs) ≡ i
length_front xs i h = omega (arith, length-take i xs)

-- one place written
pub greatest_at-more : (fs vs out : List ℕ) (i f w k : ℕ) → length vs ≡ length fs → length out ≡ length fs →
    i < length fs → f < length fs → f ≡ get_or fs i 0 →
    w ≡ max (get_or out f 0) (get_or vs i 0) →
    ((k : ℕ) → k < length fs → get_or out k 0 ≡ greatest_at (take i fs) (take i vs) k) → k < length fs →
    get_or (set out f w) k 0 ≡ greatest_at (take (i + 1) fs) (take (i + 1) vs) k
greatest_at-more fs vs out i f w k same len h hf fe we was hk =
    let iv : i < length vs = omega arith in
    let more : greatest_at (take (i + 1) fs) (take (i + 1) vs) k
    ≡ max (greatest_at (take i fs) (take i vs) k) (cond (eqb f k) (get_or vs i 0) 0) =
    rw (take_more fs i 0 h, take_more vs i 0 iv, sym fe)
    (greatest_at-push (take i fs) (take i vs) f (get_or vs i 0) k
    (omega (arith, length_front fs i (omega arith), length_front vs i (omega arith)))) in
    (elim (eqb f k) as (λ b.
    eqb f k ≡ b → get_or (set out f w) k 0 ≡ max (greatest_at (take i fs) (take i vs) k) (cond b (get_or vs i 0) 0)) [
      | true ↦ λ t.
          let e : f ≡ k = eqb-true f k t in
          let here : get_or (set out f w) k 0 ≡ w =
          subst (λ z. get_or (set out f w) z 0 ≡ w) e
          (let lt : f < length out = omega arith in get_or-set_same out f w 0 lt) in
          let old : get_or out f 0 ≡ greatest_at (take i fs) (take i vs) k = ap (λ z. get_or out z 0) e ∙ was k hk in
          here ∙ we ∙ ap (λ z. max z (get_or vs i 0)) old
      | false ↦ λ t.
          let ne : k ≡ f → ⊥ =
          λ e. let u : eqb f k ≡ true = eq-eqb f k (sym e) in absurd (let v : true ≡ false = sym u ∙ t in cc) in
          get_or-set_other out f k w 0 ne ∙ was k hk ∙ omega arith
    ]) refl ∙ sym more

pub any_default : {X : Type 0} (xs : List X) (i : ℕ) (d e : X) → i < length xs → get_or xs i d ≡ get_or xs i e
any_default [] i d e h = absurd (omega arith)
any_default (x ∷ xs) zero d e h = refl
any_default (x ∷ xs) (suc i) d e h = any_default xs i d e (omega arith)

pub All-at : {X : Type 0} (P : X → Type 0) (xs : List X) (i : ℕ) (d : X) → AllByRecursion P xs → i < length xs
    → P (get_or xs i d)
All-at P [] i d ps h = absurd (omega arith)
All-at P (x ∷ xs) zero d ps h = ps.0
All-at P (x ∷ xs) (suc i) d ps h = All-at P xs i d ps.1 (omega arith)
