-- A vector whose elements are written by its slice, by what they are seen as.
use Rattle.std.proofs.Common.{◌≡◌, List, map, length, Vec, sym, ap, subst, ◌∙◌}
use Rattle.std.specs.List.{AllByRecursion}
use Rattle.std.specs.Vec.{with_items}
use Rattle.std.proofs.lemmas.List.{with_items_is}

module _ {E Z V : Type 0} (v : Vec E Z) (slice written : List E) (same : slice ≡ v.items)
    (size : length written ≡ v.len) (see : E → V) where
  pub seen_as : (f : List V → List V) → map see written ≡ f (map see slice)
      → map see (with_items v written).items ≡ f (map see v.items)
  seen_as f says = ap (map see) (with_items_is v written size) ∙ says ∙ ap (λ es. f (map see es)) same

  pub all_seen : (P : V → Type 0) → (AllByRecursion P (map see slice) → AllByRecursion P (map see written))
      → AllByRecursion P (map see v.items) → AllByRecursion P (map see (with_items v written).items)
  all_seen P keeps h =
      subst (λ es. AllByRecursion P (map see es)) (sym (with_items_is v written size))
      (keeps (subst (λ es. AllByRecursion P (map see es)) (sym same) h))
