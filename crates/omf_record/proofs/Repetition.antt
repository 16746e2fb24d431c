-- Copies of a list, one behind the other.
use Rattle.std.specs.List.{repeat as copies}
use Rattle.std.proofs.Common.{◌≡◌, ℕ, zero, suc, ◌+◌, ◌-◌, ◌*◌, ◌≤◌, ◌<◌, min, inl, inr, List, [], ◌++◌, length, take}
use Rattle.std.proofs.Common.{map, refl, sym, ap, ◌∙◌, append_assoc, arith}
use Rattle.std.proofs.lemmas.List.{length-append, append-nil, map-append, take_at}
use Rattle.std.proofs.lemmas.Bool.{cases_lt}
use Rattle.std.proofs.lemmas.Nat.{mul-le}
use Rattle.std.proofs.Math.Nat.{le_of_mul-le-mul_right}

pub length-copies : {A : Type 0} (n : ℕ) (xs : List A) → length (copies n xs) ≡ n * length xs
length-copies zero xs = omega arith
length-copies (suc n) xs = omega (arith, length-append xs (copies n xs), length-copies n xs)

pub map-copies : {A B : Type 0} (f : A → B) (n : ℕ) (xs : List A) → map f (copies n xs) ≡ copies n (map f xs)
map-copies f zero xs = refl
map-copies f (suc n) xs = map-append f xs (copies n xs) ∙ ap (λ t. map f xs ++ t) (map-copies f n xs)

none : {A : Type 0} (n : ℕ) → copies {A = A} n [] ≡ []
none zero = refl
none (suc n) = none n

-- copies of no item
pub copies_none : {A : Type 0} (n once : ℕ) (xs : List A) → once ≡ 0 → take (n * once) xs ≡ copies n (take once xs)
copies_none n once xs is =
    let product : n * 0 ≡ 0 = omega arith in
    rw (is, product) (sym (none n))

copies-add : {A : Type 0} (m n : ℕ) (xs : List A) → copies (m + n) xs ≡ copies m xs ++ copies n xs
copies-add zero n xs = ap (λ k. copies k xs) (omega arith)
copies-add (suc m) n xs =
    let e : suc m + n ≡ suc (m + n) = omega arith in
    ap (λ k. copies k xs) e ∙ ap (λ t. xs ++ t) (copies-add m n xs) ∙ sym (append_assoc xs (copies m xs) (copies n xs))

take-copies : {A : Type 0} (m n : ℕ) (xs : List A) → take (m * length xs) (copies (m + n) xs) ≡ copies m xs
take-copies m n xs =
    ap (take (m * length xs)) (copies-add m n xs)
    ∙ take_at (copies m xs) (copies n xs) (m * length xs) (length-copies m xs)

-- what is laid in a turn is copies too, and no more of them than are there
in_copies : (laid repeat once count : ℕ) → laid * once < repeat * once
    → count ≡ min (laid * once) (repeat * once - laid * once) → (more : ℕ) × (more ≤ laid) × (count ≡ more * once)
in_copies laid repeat once count lt is = elim (cases_lt laid repeat) [
  | inl less ↦ go (repeat - laid) (omega arith)
  | inr over ↦ absurd (omega (arith, mul-le repeat once laid once over (omega arith)))
]
  where
    go : (rest : ℕ) → repeat ≡ laid + rest → (more : ℕ) × (more ≤ laid) × (count ≡ more * once)
    go rest parts =
        let whole : repeat * once ≡ laid * once + rest * once = ap (λ n. n * once) parts ∙ omega arith in
        elim (cases_lt rest laid) [
          | inl less ↦ (rest, omega arith, omega (arith, mul-le rest once laid once (omega arith) (omega arith)))
          | inr over ↦ (laid, omega arith, omega (arith, mul-le laid once rest once over (omega arith)))
        ]

-- a list of this length is copies
pub record Copies {A : Type 0} (xs : List A) (once len : ℕ) (laid : List A) : Type 0 where
  pub count : ℕ
  pub sized : len ≡ count * once
  pub same : laid ≡ copies count xs

-- the first of them
pub first_copy : {A : Type 0} (xs : List A) (once : ℕ) → length xs ≡ once → Copies xs once once xs
first_copy xs once size = record {
  count = 1;
  sized = omega arith;
  same = sym (append-nil xs);
}

pub again : {A : Type 0} (xs front copied behind : List A) (repeat once laid count : ℕ) → length xs ≡ once
    → Copies xs once laid front → laid < repeat * once → count ≡ min laid (repeat * once - laid)
    → copied ≡ take count front
    → Copies xs once (laid + count) (take (laid + count) (front ++ (copied ++ behind)))
again xs front copied behind repeat once laid count size old lt is taken =
    let turn = in_copies old.count repeat once count (omega (arith, old.sized)) (omega (arith, old.sized)) in
    go turn.0 turn.1 turn.2
  where
    go : (more : ℕ) → more ≤ old.count → count ≡ more * once
        → Copies xs once (laid + count) (take (laid + count) (front ++ (copied ++ behind)))
    go more few fits =
        let m = old.count in
        let split : m ≡ more + (m - more) = omega arith in
        let piece : copied ≡ copies more xs =
        taken ∙ ap (λ n. take n front) (fits ∙ ap (λ k. more * k) (sym size))
        ∙ ap (take (more * length xs)) (old.same ∙ ap (λ n. copies n xs) split) ∙ take-copies more (m - more) xs in
        let whole : front ++ (copied ++ behind) ≡ copies (m + more) xs ++ behind =
        rw (old.same, piece, copies-add) (sym (append_assoc (copies m xs) (copies more xs) behind)) in
        record {
          count = m + more;
          sized = omega (arith, old.sized, fits);
          same =
              ap (take (laid + count)) whole
              ∙ take_at (copies (m + more) xs) behind (laid + count)
              (omega (arith, length-copies (m + more) xs, ap (λ k. (m + more) * k) size, old.sized, fits));
        }

pub all_laid : {A : Type 0} (xs : List A) (repeat once : ℕ) (laid : List A) → 0 < once
    → Copies xs once (repeat * once) laid → laid ≡ copies repeat xs
all_laid xs repeat once laid some f =
    let least : f.count ≤ repeat = le_of_mul-le-mul_right {k = once} (omega (arith, f.sized)) some in
    let most : repeat ≤ f.count = le_of_mul-le-mul_right {k = once} (omega (arith, f.sized)) some in
    f.same ∙ ap (λ n. copies n xs) (omega arith)
