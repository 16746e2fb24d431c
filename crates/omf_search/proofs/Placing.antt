-- The place of the first element that passes a test.
use Rattle.std.proofs.Common.{◌≡◌, ℕ, zero, suc, ◌+◌, ◌<◌, ◌≤◌, Bool, true, false, cond, List, [], ◌∷◌, ◌++◌, length}
use Rattle.std.proofs.Common.{map, take, get_or, slice_get, Option, Some, None, refl, ap, sym, ◌∙◌, arith}
use Rattle.std.specs.List.{find}
use Rattle.std.specs.Option.{option_and_then, option_or}
use Rattle.omf_search.specs.Places.{place_from}
use Rattle.omf_search.proofs.TakenSteps.{length_front, map_more}

pub place_from-push : {X : Type 0} (n m : ℕ) (test : X → Bool) (xs : List X) (x : X) → m ≡ n + length xs →
    place_from n test (xs ++ x ∷ []) ≡ option_or (place_from n test xs) (cond (test x) (Some m) None)
place_from-push n m test [] x e = let same : n ≡ m = omega arith in ap (λ k. cond (test x) (Some k) None) same
place_from-push n m test (y ∷ ys) x e =
    elim (test y) as (λ b.
    cond b (Some n) (place_from (n + 1) test (ys ++ x ∷ []))
    ≡ option_or (cond b (Some n) (place_from (n + 1) test ys)) (cond (test x) (Some m) None)) [
      | true ↦ refl
      | false ↦ place_from-push (n + 1) m test ys x (omega arith)
    ]

-- the place of one more element
pub place_from-more : {X Y : Type 0} (test : Y → Bool) (f : X → Y) (xs : List X) (i : ℕ) (d : X) → i < length xs →
    place_from 0 test (map f (take (i + 1) xs))
    ≡ option_or (place_from 0 test (map f (take i xs))) (cond (test (f (get_or xs i d))) (Some i) None)
place_from-more test f xs i d h =
    let len = length_front f xs i h in
    ap (place_from 0 test) (map_more f xs i d h)
    ∙ place_from-push 0 i test (map f (take i xs)) (f (get_or xs i d)) (omega arith)

pub place_from-le : {X : Type 0} (n : ℕ) (test : X → Bool) (xs : List X) (k : ℕ) → place_from n test xs ≡ Some k → n ≤ k
place_from-le n test [] k e = absurd (let u : None ≡ Some k = e in cc)
place_from-le n test (x ∷ xs) k e =
    (elim (test x) as (λ b. cond b (Some n) (place_from (n + 1) test xs) ≡ Some k → n ≤ k) [
      | true ↦ λ u. let same : n ≡ k = cc in omega arith
      | false ↦ λ u. let more = place_from-le (n + 1) test xs k u in omega arith
    ]) e

found_at : {X : Type 0} (n : ℕ) (p : X → Bool) (xs : List X) (m : ℕ) → place_from n p xs ≡ Some (n + m)
    → find p xs ≡ slice_get xs m
found_at n p [] m e = absurd (let u : None ≡ Some (n + m) = e in cc)
found_at n p (x ∷ xs) zero e =
    (elim (p x) as (λ b.
    cond b (Some n) (place_from (n + 1) p xs) ≡ Some (n + 0) → cond b (Some x) (find p xs) ≡ Some x) [
      | true ↦ λ u. refl
      | false ↦ λ u. absurd (let more = place_from-le (n + 1) p xs (n + 0) u in omega arith)
    ]) e
found_at n p (x ∷ xs) (suc m) e =
    (elim (p x) as (λ b.
    cond b (Some n) (place_from (n + 1) p xs) ≡ Some (n + suc m) → cond b (Some x) (find p xs) ≡ slice_get xs m) [
      | true ↦ λ u. absurd (let same : n ≡ n + suc m = cc in omega arith)
      | false ↦ λ u. let k : n + suc m ≡ (n + 1) + m = omega arith in found_at (n + 1) p xs m (u ∙ ap (λ j. Some j) k)
    ]) e

pub not_found : {X : Type 0} (n : ℕ) (p : X → Bool) (xs : List X) → place_from n p xs ≡ None → find p xs ≡ None
not_found n p [] e = refl
not_found n p (x ∷ xs) e =
    (elim (p x) as (λ b. cond b (Some n) (place_from (n + 1) p xs) ≡ None → cond b (Some x) (find p xs) ≡ None) [
      | true ↦ λ u. cc
      | false ↦ λ u. not_found (n + 1) p xs u
    ]) e

-- the first that passes stands at its place
pub found_place : {X : Type 0} (p : X → Bool) (xs : List X) (o : Option ℕ) → o ≡ place_from 0 p xs
    → find p xs ≡ option_and_then (slice_get xs) o
found_place p xs None e = not_found 0 p xs (sym e)
found_place p xs (Some k) e = let z : k ≡ 0 + k = omega arith in found_at 0 p xs k (sym e ∙ ap (λ j. Some j) z)
