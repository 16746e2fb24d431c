-- Numbers of two bytes or four, by their words.
use Rattle.std.proofs.Common.{◌≡◌, ℕ, ◌+◌, ◌*◌, ◌/◌, ◌%◌, ◌<◌, Bool, true, false, List, [], ◌∷◌, ◌++◌, refl, sym, arith}
use Rattle.std.proofs.Common.{◌∙◌}
use Rattle.omf_codec.specs.Language.{Little, little, Where, width_of}
use Rattle.omf_codec.specs.inside.Canonical as canon
use Rattle.omf_codec.specs.inside.Format.{Format, IsMade, Splits, Lawful, Completes, IsFilled, join, numbered}
use Rattle.omf_codec.specs.inside.FormatLaws.{both, both_lawful, both_blank, both_filled, made_lawful, made_blank}
use Rattle.omf_codec.specs.inside.FormatLaws.{made_filled, exact, exact_splits}
use Rattle.omf_codec.specs.inside.PrimitiveLaws.{word, word_lawful, word_blank, word_filled, zero_byte, IsZero}
use Rattle.omf_codec.specs.inside.PrimitiveLaws.{fact_byte_lawful}

-- a number of that width
abbrev pub number : Bool → Format ℕ ℕ
number wide = numbered (Little (width_of wide)) (little (width_of wide))

-- ---- four bytes

abbrev pub double : Format ℕ ℕ
double = number true

to : (x : ℕ × ℕ) (text : List ℕ) → (both word word).Text x text → Little 4 (x.0 + 65536 * x.1) text
to (low, high) text j = grind (arith, j)

back : (n : ℕ) → n % 65536 + 65536 * (n / 65536) ≡ n
back n = omega arith

same : (n : ℕ) → (both word word).canonical (n % 65536, n / 65536) ≡ little 4 n
same n = grind arith

from : (n : ℕ) (text : List ℕ) → Little 4 n text → (both word word).Text (n % 65536, n / 65536) text
from n text l = join (canon.word (n % 65536)) (canon.word (n / 65536)) (l.1 ∙ sym (same n)) (omega arith, refl)
    (omega (arith, l.0), refl)

pub double_made : IsMade (both word word) double
double_made = exact (both word word) double (λ x. x.0 + 65536 * x.1) (λ n. (n % 65536, n / 65536)) same to
    from back (λ r. tt)

pub double_splits : (y : ℕ) → Splits (both word word) double (y % 65536, y / 65536) y
double_splits = exact_splits (both word word) double (λ x. x.0 + 65536 * x.1) (λ n. (n % 65536, n / 65536))
    same to from back

-- ---- of two or four

abbrev double_laws : Lawful double
double_laws = made_lawful (both word word) double double_made (both_lawful word word_lawful (λ r. tt) word word_lawful)
    (λ r. tt)

pub number_lawful : (wide : Bool) → Lawful (number wide)
number_lawful true = record { one = double_laws.one; shortest = double_laws.shortest; bytes = double_laws.bytes }
number_lawful false = word_lawful

pub number_blank : (wide : Bool) → Completes (number wide) []
number_blank true = made_blank (both word word) double double_made (both_blank word word word_blank word_blank)
number_blank false = word_blank

pub number_filled : (wide : Bool) → IsFilled (number wide)
number_filled true = made_filled (both word word) double double_made (both_filled word word word_filled)
number_filled false = word_filled

-- ---- of 16 bits in four bytes

-- a number of 16 bits in four bytes
abbrev pub LongText : ℕ → List ℕ → Type 0
LongText n = Where (n < 65536) (Little 4 n)

abbrev pub long : Format ℕ ℕ
long = numbered LongText (λ n. canon.word n ++ 0 ∷ 0 ∷ [])

abbrev pub LongParts : Format (ℕ × (ℕ × ℕ)) (ℕ × (ℕ × ℕ))
LongParts = both word (both zero_byte zero_byte)

long_to : (x : ℕ × (ℕ × ℕ)) (text : List ℕ) → LongParts.Text x text → LongText x.0 text
long_to (n, (a, b)) text j = grind (arith, j)

long_from : (n : ℕ) (text : List ℕ) → LongText n text → LongParts.Text (n, (0, 0)) text
long_from n text l =
    let is : text ≡ canon.word n ++ 0 ∷ 0 ∷ [] = grind (arith, l) in
    join (canon.word n) (0 ∷ 0 ∷ []) is (l.0, refl)
    (join (0 ∷ []) (0 ∷ []) refl (refl, (omega arith, refl)) (refl, (omega arith, refl)))

pub long_made : IsMade LongParts long
long_made = exact LongParts long (λ x. x.0) (λ n. (n, (0, 0))) (λ n. refl) long_to long_from (λ n. refl) (λ r. tt)

pub long_splits : (n : ℕ) → Splits LongParts long (n, (0, 0)) n
long_splits = exact_splits LongParts long (λ x. x.0) (λ n. (n, (0, 0))) (λ n. refl) long_to long_from (λ n. refl)

pub long_lawful : Lawful long
long_lawful = made_lawful LongParts long long_made
    (both_lawful word word_lawful (λ r. tt) (both zero_byte zero_byte)
    (both_lawful zero_byte (fact_byte_lawful IsZero) (λ r. tt) zero_byte (fact_byte_lawful IsZero))) (λ r. tt)
