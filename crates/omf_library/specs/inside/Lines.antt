-- How long the lines of a table are.
use Rattle.std.specs.Prelude.{◌≡◌, ℕ, ◌==◌, Bool, List, [], ◌∷◌, ◌++◌}
use Rattle.std.specs.List.{position_or_len}
use Rattle.omf_library.specs.declared.long_names.LongNames.{LongNames}

-- a byte ends a line
abbrev pub ends_line : ℕ → Bool
ends_line b = b == 10

-- how long the line is that begins at each place, the last place first
unfoldable pub line_lengths : List ℕ → List ℕ
line_lengths [] = []
line_lengths (b ∷ bs) = line_lengths bs ++ position_or_len ends_line (b ∷ bs) ∷ []

-- names have the lengths of the lines of their table
abbrev pub AreMeasured : {A : Type 0} → LongNames A → Type 0
AreMeasured names = names.lengths.items ≡ line_lengths names.table.now
