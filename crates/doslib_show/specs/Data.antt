-- Bytes, in rows of 16.
use Rattle.std.specs.Prelude.{ℕ, zero, suc, ◌+◌, ◌/◌, List, [], ◌∷◌, ◌++◌, length, take, drop, codes}
use Rattle.std.specs.List.{concat, flat_map}
use Rattle.omf_text.specs.Printing.{hexadecimal}

-- what stands in a row of its own
abbrev pub row : List (List ℕ) → List ℕ
row parts = concat (codes "      " ∷ (parts ++ (codes "\n" ∷ [])))

-- a byte behind a space
abbrev pub spaced : ℕ → List ℕ
spaced byte = concat (codes " " ∷ hexadecimal 2 byte ∷ [])

-- a row of bytes, the first of which stands at this place
abbrev pub byte_row : (place : ℕ) → List ℕ → List ℕ
byte_row place bytes = row (hexadecimal 4 place ∷ flat_map spaced bytes ∷ [])

-- so many rows of 16 bytes each, but for the last
abbrev pub byte_rows : (count place : ℕ) → List ℕ → List ℕ
byte_rows zero place bytes = []
byte_rows (suc count) place bytes =
    byte_row place (take 16 bytes) ++ byte_rows count (place + 16) (drop 16 bytes)

-- bytes from a place on, in as many rows as they need
unfoldable pub data_rows : (place : ℕ) → List ℕ → List ℕ
data_rows place bytes = byte_rows ((length bytes + 15) / 16) place bytes
