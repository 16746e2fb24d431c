-- What a mark parts of a text, but where it stands between two quotes.
use Rattle.std.specs.Prelude.{ℕ, zero, suc, ◌+◌, ◌==◌, ◌&&◌, not, Bool, false, List, [], ◌∷◌, nat_lt, length, take}
use Rattle.std.specs.Prelude.{drop, Option, Some, None, if◌then◌else◌}
use Rattle.std.specs.Option.{option_map_or}
use Rattle.clap.specs.Words.{Text}

-- whether the text behind a byte stands between quotes, where this is so of the byte: a quote begins that, and ends it
abbrev pub quoted_behind : (byte : ℕ) → (quoted : Bool) → Bool
quoted_behind byte quoted = if byte == 34 then not quoted else quoted

-- how many bytes stand before the first mark that is between no quotes, in a text that begins between such or not
abbrev pub part_len : (mark : ℕ) → (quoted : Bool) → Text → ℕ
part_len mark quoted [] = 0
part_len mark quoted (byte ∷ text) =
    if byte == mark && not quoted then 0 else 1 + part_len mark (quoted_behind byte quoted) text

-- what stands before the first mark that is between no quotes, and what stands behind it
abbrev pub first_split : (mark : ℕ) → Text → Option (Text × Text)
first_split mark text =
    if nat_lt (part_len mark false text) (length text)
    then Some (take (part_len mark false text) text, drop (part_len mark false text + 1) text) else None

-- what marks part of a text that has fewer than `bound` of them
abbrev pub parts_below : (bound : ℕ) → (mark : ℕ) → Text → List Text
parts_below zero mark text = text ∷ []
parts_below (suc bound) mark text =
    option_map_or (λ p. p.0 ∷ parts_below bound mark p.1) (first_split mark text) (text ∷ [])

-- each mark is a byte at least, so that the bound is none
unfoldable pub parts : (mark : ℕ) → Text → List Text
parts mark text = parts_below (length text) mark text
