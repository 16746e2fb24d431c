-- Numbers: how long a stack is asked to be, a paragraph, and an address.
use Rattle.std.specs.Prelude.{ℕ, ◌+◌, ◌*◌, ◌-◌, ◌==◌, ◌&&◌, ◌||◌, Bool, nat_le, nat_lt, [], ◌∷◌, length, take, drop}
use Rattle.std.specs.Prelude.{Option, Some, None, if◌then◌else◌, slice_index}
use Rattle.std.specs.Option.{option_map, option_and_then}
use Rattle.std.specs.Char.{digit_value}
use Rattle.clap.specs.Words.{Text}
use Rattle.doslink_words.specs.Tokens.{if_empty}

-- the longest stack: a segment's most bytes
abbrev pub longest : ℕ
longest = 65_536

-- the greatest number: the end of the memory that a real-mode address reaches
abbrev pub greatest : ℕ
greatest = 1_048_576

-- the number that digits of a radix write behind those of `value`; none where a byte is no digit, or it is above the
-- greatest
abbrev pub digits_behind : (radix value : ℕ) → Text → Option ℕ
digits_behind radix value [] = Some value
digits_behind radix value (byte ∷ more) =
    if nat_lt (digit_value byte) radix && nat_le (value * radix + digit_value byte) greatest
    then digits_behind radix (value * radix + digit_value byte) more else None

-- the number that a numeral writes, which has a digit at least
abbrev pub numeral : (radix : ℕ) → Text → Option ℕ
numeral radix digits = if_empty digits None (digits_behind radix 0 digits)

-- whether a text begins with `0x` or `0X`
abbrev pub is_hexadecimal : Text → Bool
is_hexadecimal text =
    nat_le 2 (length text) && slice_index text 0 == 48 && (slice_index text 1 == 120 || slice_index text 1 == 88)

-- a number: hexadecimal behind `0x`, else decimal
abbrev pub number : Text → Option ℕ
number text = if is_hexadecimal text then numeral 16 (drop 2 text) else numeral 10 text

-- whether a text ends with `k` or `K`
abbrev pub is_in_kilobytes : Text → Bool
is_in_kilobytes text =
    nat_le 1 (length text)
    && (slice_index text (length text - 1) == 107 || slice_index text (length text - 1) == 75)

-- a number of bytes, or of 1,024 bytes each where `k` stands behind it
abbrev pub size : Text → Option ℕ
size text =
    if is_in_kilobytes text then option_map (λ n. n * 1024) (number (take (length text - 1) text)) else number text

-- those that a stack may have
abbrev pub in_range : ℕ → Option ℕ
in_range n = if nat_le 1 n && nat_le n longest then Some n else None

-- how many bytes a text asks for, 1 to 65,536, or none where it is no such number
abbrev pub stack_bytes : Text → Option ℕ
stack_bytes text = option_and_then in_range (size text)

-- the digits behind `0x`, or all where none is in front
abbrev pub hexadecimals : Text → Text
hexadecimals text = if is_hexadecimal text then drop 2 text else text

-- those that a paragraph may be
abbrev pub in_word : ℕ → Option ℕ
in_word n = if nat_lt n 65_536 then Some n else None

-- the paragraph that a text names: a hexadecimal number, also behind `0x`, below 65,536
abbrev pub paragraph : Text → Option ℕ
paragraph text = option_and_then in_word (numeral 16 (hexadecimals text))
