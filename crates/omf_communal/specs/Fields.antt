-- The numbers of COMDEF at the front of bytes (TIS OMF 1.1, "COMDEF"): what a number is, and the bytes that stand
-- behind it; none, where the bytes end inside it.
use Rattle.std.specs.Prelude.{ℕ, ◌+◌, ◌*◌, ◌==◌, nat_le, if◌then◌else◌, List, [], ◌∷◌, Some, None}
use Rattle.std.specs.declared.option.Option.{Option}
use Rattle.std.specs.Option.{option_map, option_and_then}

-- two bytes, the low one first
abbrev pub two_front : List ℕ → Option (ℕ × List ℕ)
two_front [] = None
two_front (first ∷ []) = None
two_front (first ∷ second ∷ rest) = Some (first + 256 * second, rest)

-- three bytes, the low one first
abbrev pub three_front : List ℕ → Option (ℕ × List ℕ)
three_front [] = None
three_front (first ∷ rest) = option_map (λ (high, after). (first + 256 * high, after)) (two_front rest)

-- four bytes, the low one first
abbrev pub four_front : List ℕ → Option (ℕ × List ℕ)
four_front bytes = option_and_then
    (λ (low, rest). option_map (λ (high, after). (low + 65536 * high, after)) (two_front rest)) (two_front bytes)

-- a number: its first byte where that is 0 to 80H; behind 81H two bytes, behind 84H three, behind 88H four
unfoldable pub number_front : List ℕ → Option (ℕ × List ℕ)
number_front [] = None
number_front (first ∷ rest) =
    if nat_le first 0x80 then Some (first, rest)
    else if first == 0x81 then two_front rest
    else if first == 0x84 then three_front rest
    else if first == 0x88 then four_front rest
    else None
