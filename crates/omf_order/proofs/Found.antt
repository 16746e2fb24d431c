-- What a list has, by the place of the first that passes.
use Rattle.std.proofs.Common.{◌≡◌, suc, ◌+◌, ◌<◌, ◌≤◌, Bool, true, false, cond, not, ◌||◌, ltb, List, [], ◌∷◌, length}
use Rattle.std.proofs.Common.{refl, arith}
use Rattle.std.proofs.lemmas.Bool.{ltb-true, ltb-false}
use Rattle.std.specs.List.{list_any, position_or_len}

-- a test finds something where its place is one of the list
found_within : {X : Type 0} (p : X → Bool) (xs : List X) → list_any p xs ≡ true → position_or_len p xs < length xs
found_within p [] e = cc
found_within p (x ∷ xs) e =
    (elim (p x) as (λ b. (b || list_any p xs) ≡ true → cond (not b) (1 + position_or_len p xs) 0 < suc (length xs)) [
      | true ↦ λ h. omega arith
      | false ↦ λ h. let l = found_within p xs h in omega (arith, l)
    ]) e

found_not : {X : Type 0} (p : X → Bool) (xs : List X) → list_any p xs ≡ false → length xs ≤ position_or_len p xs
found_not p [] e = omega arith
found_not p (x ∷ xs) e =
    (elim (p x) as (λ b. (b || list_any p xs) ≡ false → suc (length xs) ≤ cond (not b) (1 + position_or_len p xs) 0) [
      | true ↦ λ h. cc
      | false ↦ λ h. let l = found_not p xs h in omega (arith, l)
    ]) e

pub found : {X : Type 0} (p : X → Bool) (xs : List X) → ltb (position_or_len p xs) (length xs) ≡ list_any p xs
found p xs =
    (elim (ltb (position_or_len p xs) (length xs)) as (λ t.
    ltb (position_or_len p xs) (length xs) ≡ t → t ≡ list_any p xs) [
      | true ↦ λ e. (elim (list_any p xs) as (λ u. list_any p xs ≡ u → true ≡ u) [
        | true ↦ λ h. refl
        | false ↦ λ h. absurd (let l = found_not p xs h in let m = ltb-true _ _ e in omega (arith, l, m))
      ]) refl
      | false ↦ λ e. (elim (list_any p xs) as (λ u. list_any p xs ≡ u → false ≡ u) [
        | true ↦ λ h. absurd (let l = found_within p xs h in let m = ltb-false _ _ e in omega (arith, l, m))
        | false ↦ λ h. refl
      ]) refl
    ]) refl
