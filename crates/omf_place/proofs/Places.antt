-- The first place that passes a test, through a map.
use Rattle.std.proofs.Common.{◌≡◌, ℕ, suc, ◌+◌, ◌-◌, ◌<◌, Bool, false, cond, not, List, [], ◌∷◌, length, map, get_or}
use Rattle.std.proofs.Common.{refl, ap, arith}
use Rattle.std.specs.List.{position_or_len}

pub place_map : {A B : Type 0} (f : A → B) (p : B → Bool) (xs : List A)
    → position_or_len p (map f xs) ≡ position_or_len (λ x. p (f x)) xs
place_map f p [] = refl
place_map f p (x ∷ xs) = ap (λ n. cond (not (p (f x))) (1 + n) 0) (place_map f p xs)

-- none passes
pub place_none : {A : Type 0} (p : A → Bool) (xs : List A) (n : ℕ)
    → ((k : ℕ) (d : A) → k < n → p (get_or xs k d) ≡ false) → n ≡ length xs → length xs ≡ position_or_len p xs
place_none p [] n h e = refl
place_none p (x ∷ xs) n h e =
    let first : p x ≡ false = h 0 x (omega arith) in
    rw first (omega (arith, place_none p xs (n - 1) (λ k d below. h (suc k) d (omega arith)) (omega arith)))
