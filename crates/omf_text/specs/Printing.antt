-- Printed text: lists of ASCII bytes.
use Rattle.std.specs.Prelude.{ℕ, ◌+◌, ◌-◌, ◌/◌, ◌%◌, ◌==◌, ◌&&◌, not, Bool, nat_le, nat_lt, if◌then◌else◌, List, []}
use Rattle.std.specs.Prelude.{◌∷◌, ◌++◌, length, map, replicate}
use Rattle.std.specs.List.{flat_map}
use Rattle.std.specs.Int.Digits.{digits_of}

-- the digit of a value below 16: 0 to 9, A to F
abbrev pub digit : ℕ → ℕ
digit value = if nat_lt value 10 then 48 + value else 55 + value

-- at least so many hexadecimal digits, with leading zeros; `digits_of` gives a number's digits, the highest first, and
-- none of 0
unfoldable pub hexadecimal : ℕ → ℕ → List ℕ
hexadecimal width number =
    let digits = map digit (digits_of 16 number) in replicate (width - length digits) 48 ++ digits

-- a text with spaces behind it, up to the width
abbrev pub left : ℕ → List ℕ → List ℕ
left width text = text ++ replicate (width - length text) 32

-- a text with spaces before it, up to the width
abbrev pub right : ℕ → List ℕ → List ℕ
right width text = replicate (width - length text) 32 ++ text

-- whether a byte of a printed name stands as it is: 20H to 7EH other than the quote and the backslash
unfoldable pub is_plain : ℕ → Bool
is_plain byte = nat_le 32 byte && nat_le byte 126 && not (byte == 34) && not (byte == 92)

-- any other byte is printed by its two digits
abbrev pub name_byte : ℕ → List ℕ
name_byte byte = if is_plain byte then byte ∷ [] else 92 ∷ 120 ∷ digit (byte / 16) ∷ digit (byte % 16) ∷ []

-- a name between two quotes
unfoldable pub printed_name : List ℕ → List ℕ
printed_name name = 34 ∷ [] ++ flat_map name_byte name ++ 34 ∷ []
