-- The number that decimal digits spell, one digit after the other.
use Rattle.std.proofs.Common.{◌≡◌, ℕ, ◌+◌, ◌-◌, ◌*◌, ◌^◌, ◌<◌, ◌≤◌, false, cond, List, [], ◌∷◌, length, get_or, drop}
use Rattle.std.proofs.Common.{Some, None, refl, sym, ap, ◌∙◌, arith}
use Rattle.std.specs.Char.{is_ascii_digit}
use Rattle.std.proofs.lemmas.List.{drop_more}
use Rattle.std.proofs.Math.Seq.{drop-length}
use Rattle.std.proofs.Math.Nat.{pow-le-pow_right}
use Rattle.omf_library.specs.Archive.{number_behind, decimal}

pub decimal-some : (digits : List ℕ) → 0 < length digits → decimal digits ≡ number_behind 0 digits
unfolding decimal
decimal-some [] some = absurd (omega arith)
decimal-some (d ∷ ds) some = refl

pub decimal-none : (digits : List ℕ) → length digits ≡ 0 → decimal digits ≡ None
unfolding decimal
decimal-none [] none = refl
decimal-none (d ∷ ds) none = absurd (omega (arith, none))

-- what the digits from a place on give behind a number
pub number-more : (n : ℕ) (digits : List ℕ) (i : ℕ) → i < length digits
    → number_behind n (drop i digits)
    ≡ cond (is_ascii_digit (get_or digits i 0))
    (number_behind (10 * n + (get_or digits i 0 - 48)) (drop (i + 1) digits)) None
number-more n digits i within = ap (number_behind n) (drop_more digits i 0 within)

-- a byte that is no digit
pub digits_stop : (n : ℕ) (digits : List ℕ) (i : ℕ) → i < length digits → is_ascii_digit (get_or digits i 0) ≡ false
    → number_behind n (drop i digits) ≡ number_behind 0 digits → decimal digits ≡ None
digits_stop n digits i within other left =
    decimal-some digits (omega (arith, within)) ∙ sym left ∙ number-more n digits i within
    ∙ ap (λ t. cond t (number_behind (10 * n + (get_or digits i 0 - 48)) (drop (i + 1) digits)) None) other

-- no byte more
pub digits_all : (n : ℕ) (digits : List ℕ) (i : ℕ) → i ≡ length digits → 0 < length digits
    → number_behind n (drop i digits) ≡ number_behind 0 digits → decimal digits ≡ Some n
digits_all n digits i end some left =
    decimal-some digits some ∙ sym left ∙ ap (number_behind n) (ap (λ k. drop k digits) end ∙ drop-length digits)

-- one more of at most 16 digits fits
pub digits_fit : (n i : ℕ) → n < 10 ^ i → i < 16 → 10 * n + 256 < 2 ^ 64
digits_fit n i below few =
    let some : 0 < 10 = omega arith in
    let le : i ≤ 15 = omega arith in
    let tenth : 10 ^ i ≤ 10 ^ 15 = pow-le-pow_right {n = 10} some {i = i} {j = 15} le in
    omega (arith, below, tenth)
