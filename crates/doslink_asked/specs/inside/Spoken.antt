-- Lines of directives, as the code has them.
use Rattle.std.specs.Prelude.{ℕ, ◌-◌, List, map, slice_get, None}
use Rattle.std.specs.declared.option.Option.{Option}
use Rattle.std.specs.Option.{option_map, option_map_or}
use Rattle.clap.specs.Words.{Text}
use Rattle.doslink_asked.specs.Spoken as spoken
use Rattle.doslink_asked.specs.declared.spoken.SourceLine.{SourceLine}

abbrev pub said_line : SourceLine → spoken.SourceLine
said_line line = record { path = option_map (λ path. path.now) line.path; number = line.number; text = line.text.now }

abbrev pub said_lines : List SourceLine → List spoken.SourceLine
said_lines lines = map said_line lines

-- the file in which a line of the text stands, if it is in one, and the line's number there
abbrev pub place_in : List spoken.SourceLine → (line : ℕ) → Option Text × ℕ
place_in lines line = option_map_or (λ l. (l.path, l.number)) (slice_get lines (line - 1)) (None, line)
