-- Lists whose elements become others one after the other, where they stand.
use Rattle.std.proofs.Common.{◌≡◌, ℕ, zero, suc, ◌+◌, ◌<◌, List, [], ◌∷◌, ◌++◌, map, take, drop, set, length, get_or}
use Rattle.std.proofs.Common.{Vec, sym, ap, subst, ◌∙◌, arith}
use Rattle.std.specs.List.{AllByRecursion}
use Rattle.std.specs.Vec.{with_items}
use Rattle.std.proofs.lemmas.List.{map-set, get_or-map, length-map, with_items_is}
use Rattle.std.proofs.lemmas.List.Edits.{map_over_more}

-- by what they are seen as
pub seen_more : {E V : Type 0} (see : E → V) (f : V → V) (old now : List E) (i : ℕ) (e e' : E) → i < length old
    → i < length now → e ≡ get_or now i e
    → map see now ≡ map f (take i (map see old)) ++ drop i (map see old) → see e' ≡ f (see e)
    → map see (set now i e') ≡ map f (take (i + 1) (map see old)) ++ drop (i + 1) (map see old)
seen_more see f old now i e e' lt lt' at before says =
    let inside : i < length (map see old) = omega (arith, length-map old see) in
    let read : see e ≡ get_or (map see now) i (see e) = ap see at ∙ sym (get_or-map see now i e (see e) lt') in
    map-set see now i e' ∙ ap (λ v. set (map see now) i v) says
    ∙ map_over_more f (map see old) (map see now) i (see e) inside before read

pub all_set : {X : Type 0} (P : X → Type 0) (xs : List X) (i : ℕ) (x : X) → AllByRecursion P xs → P x
    → AllByRecursion P (set xs i x)
all_set P [] i x h p = h
all_set P (y ∷ ys) zero x h p = (p, h.1)
all_set P (y ∷ ys) (suc i) x h p = (h.0, all_set P ys i x h.1 p)

-- a vector whose elements are written by its slice
module _ {E Z : Type 0} (v : Vec E Z) (slice written : List E) (same : slice ≡ v.items)
    (size : length written ≡ v.len) where
  pub changed_written : (f : E → E) → written ≡ map f slice → (with_items v written).items ≡ map f v.items
  changed_written f says = with_items_is v written size ∙ says ∙ ap (map f) same

  pub seen_written : {V : Type 0} (see : E → V) (f : V → V) → map see written ≡ map f (map see slice)
      → map see (with_items v written).items ≡ map f (map see v.items)
  seen_written see f says =
      ap (map see) (with_items_is v written size) ∙ says ∙ ap (λ es. map f (map see es)) same

  pub all_written : (P : E → Type 0) → (AllByRecursion P slice → AllByRecursion P written) → AllByRecursion P v.items
      → AllByRecursion P (with_items v written).items
  all_written P keeps h =
      subst (AllByRecursion P) (sym (with_items_is v written size)) (keeps (subst (AllByRecursion P) (sym same) h))
