-- Numbers in a row, and bytes with their stored places.
use Rattle.std.proofs.Common.{◌≡◌, ℕ, zero, suc, ◌+◌, ◌≤◌, List, [], ◌∷◌, ◌++◌, length, take, refl, sym, ap, ◌∙◌, arith}
use Rattle.std.proofs.Common.{add-zero, zero-add, append_assoc}
use Rattle.std.specs.List.{range_with_len, zip}
use Rattle.omf_record.specs.Expansion.{places, bytes}
use Rattle.omf_record.specs.inside.Fields.{stored_from}

pub range_push : (a n : ℕ) → range_with_len a (n + 1) ≡ range_with_len a n ++ (a + n) ∷ []
range_push a zero = simp add-zero
range_push a (suc n) =
    let e : a + 1 + n ≡ a + suc n = omega arith in
    let k : suc n + 1 ≡ suc (n + 1) = omega arith in
    rw k (ap (λ zs. a ∷ zs) (range_push (a + 1) n ∙ ap (λ m. range_with_len (a + 1) n ++ m ∷ []) e))

-- one number more behind a list
pub range_more : (xs : List ℕ) (n : ℕ) → (xs ++ range_with_len 0 n) ++ n ∷ [] ≡ xs ++ range_with_len 0 (n + 1)
range_more xs n =
    append_assoc xs (range_with_len 0 n) (n ∷ [])
    ∙ ap (λ ys. xs ++ ys) (ap (λ m. range_with_len 0 n ++ m ∷ []) (sym (zero-add n)) ∙ sym (range_push 0 n))

-- those in front are a shorter row
pub take-range : (a n k : ℕ) → k ≤ n → take k (range_with_len a n) ≡ range_with_len a k
take-range a n zero le = refl
take-range a zero (suc k) le = absurd (omega arith)
take-range a (suc n) (suc k) le = ap (λ xs. a ∷ xs) (take-range (a + 1) n k (omega arith))

pub numbered : (a : ℕ) (xs : List ℕ) → zip (range_with_len a (length xs)) xs ≡ stored_from a xs
numbered a [] = refl
numbered a (x ∷ xs) = ap (λ zs. (a, x) ∷ zs) (numbered (a + 1) xs)

pub zipped : (ps : List (ℕ × ℕ)) → zip (places ps) (bytes ps) ≡ ps
zipped [] = refl
zipped (p ∷ ps) = ap (λ zs. (p.0, p.1) ∷ zs) (zipped ps)

pub length-places : (ps : List (ℕ × ℕ)) → length (places ps) ≡ length ps
length-places [] = refl
length-places (p ∷ ps) = ap suc (length-places ps)

pub length-bytes : (ps : List (ℕ × ℕ)) → length (bytes ps) ≡ length ps
length-bytes [] = refl
length-bytes (p ∷ ps) = ap suc (length-bytes ps)
