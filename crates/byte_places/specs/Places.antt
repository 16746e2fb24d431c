-- Where a pattern stands in an image. A pattern is a list of bytes with gaps: what each of its bytes has to be, or None
-- where any may stand.
use Rattle.std.specs.Prelude.{ℕ, ◌%◌, ◌==◌, Bool, true, false, ◌&&◌, List, [], ◌∷◌, length, drop, Some, None}
use Rattle.std.specs.declared.option.Option.{Option}
use Rattle.std.specs.List.{filter, range_with_len}

-- what a pattern asks of a byte
abbrev pub allows : Option ℕ → ℕ → Bool
allows None byte = true
allows (Some wanted) byte = wanted == byte

-- there are as many bytes as the pattern has, and each is what it asks for
abbrev pub agrees : List (Option ℕ) → List ℕ → Bool
agrees [] bytes = true
agrees (cell ∷ cells) [] = false
agrees (cell ∷ cells) (byte ∷ bytes) = allows cell byte && agrees cells bytes

-- the pattern stands at a place of the image, a multiple of the alignment, and ends in the image
abbrev pub stands : (pattern : List (Option ℕ)) (alignment : ℕ) (image : List ℕ) (place : ℕ) → Bool
stands pattern alignment image place = (place % alignment == 0) && agrees pattern (drop place image)

-- all its places in the image, in rising order
abbrev pub places : (pattern : List (Option ℕ)) (alignment : ℕ) (image : List ℕ) → List ℕ
places pattern alignment image = filter (stands pattern alignment image) (range_with_len 0 (length image))
