-- A list in order has the same items, rises, and keeps those that tie as they came.
use Rattle.std.proofs.Common.{◌≡◌, zero, suc, ◌+◌, Bool, true, false, cond, List, [], ◌∷◌, arith}
use Rattle.std.specs.Cmp.{IsStrictWeakOrder, IsTotalOrder, nat_cmp_total, on_total, then_total}
use Rattle.std.specs.Cmp.Lexicographic.{nat_list_cmp_total}
use Rattle.std.specs.List.Sorted.{IsPermutation, IsSortedBy}
use Rattle.std.specs.Ordering.{nat_cmp, ordering_then}
use Rattle.std.specs.declared.cmp.Ordering.{Ordering}
use Rattle.std.proofs.lemmas.List.Sorted.{IsPermutation-refl, IsPermutation-cons, IsPermutation-middle}
use Rattle.std.proofs.lemmas.List.Sorted.{IsPermutation-trans, ranks_by}
use Rattle.link_map.specs.Detailed.{Part, by_address}
use Rattle.link_map.specs.Ordered.{put_in, ordered}
use Rattle.link_map.specs.Public.{Public, by_name, by_value}
use Rattle.link_map.proofs.InOrder.{Ascends}

module _ {X : Type 0} (less : X → X → Bool) where
  permuted-put_in : (x : X) (ys : List X) → IsPermutation (x ∷ ys) (put_in less x ys)
  permuted-put_in x [] = IsPermutation-refl (x ∷ [])
  permuted-put_in x (y ∷ ys) =
      elim (less y x) as (λ b. IsPermutation (x ∷ y ∷ ys) (cond b (y ∷ put_in less x ys) (x ∷ y ∷ ys))) [
        | true ↦
            IsPermutation-trans (x ∷ y ∷ ys) (y ∷ x ∷ ys) (y ∷ put_in less x ys)
            (IsPermutation-middle (x ∷ []) y ys)
            (IsPermutation-cons y (x ∷ ys) (put_in less x ys) (permuted-put_in x ys))
        | false ↦ IsPermutation-refl (x ∷ y ∷ ys)
      ]

  pub permuted-ordered : (xs : List X) → IsPermutation xs (ordered less xs)
  permuted-ordered [] = IsPermutation-refl []
  permuted-ordered (x ∷ xs) =
      IsPermutation-trans (x ∷ xs) (x ∷ ordered less xs) (put_in less x (ordered less xs))
      (IsPermutation-cons x xs (ordered less xs) (permuted-ordered xs)) (permuted-put_in x (ordered less xs))

  pub sorted-ascends : (xs : List X) → Ascends less xs → IsSortedBy less xs
  sorted-ascends [] up k d low high = let z : ⊥ = omega (arith, high) in absurd z
  sorted-ascends (x ∷ []) up k d low high = let z : ⊥ = omega (arith, high) in absurd z
  sorted-ascends (x ∷ y ∷ ys) up zero d low high = up.0.0
  sorted-ascends (x ∷ y ∷ ys) up (suc k) d low high =
      let e : suc k + 1 ≡ suc (k + 1) = omega arith in
      rw e (sorted-ascends (y ∷ ys) up.1 k d (omega arith) (omega (arith, high)))

pub names_order : IsStrictWeakOrder by_name
names_order = ranks_by nat_list_cmp_total (λ (p : Public). p.name)

abbrev place_cmp : Public → Public → Ordering
place_cmp one other = ordering_then (nat_cmp one.frame other.frame) (nat_cmp one.offset other.offset)

place_cmp_total : IsTotalOrder place_cmp
place_cmp_total =
    then_total (on_total (λ (p : Public). p.frame) nat_cmp_total) (on_total (λ (p : Public). p.offset) nat_cmp_total)

pub values_order : IsStrictWeakOrder by_value
values_order = ranks_by place_cmp_total (λ p. p)

pub addresses_order : IsStrictWeakOrder by_address
addresses_order = ranks_by nat_cmp_total (λ (p : Part). p.address)
