-- The line numbers of a program, as the map lists them: those of each segment of a module, behind a heading of their
-- own.
use Rattle.std.specs.Prelude.{ℕ, zero, suc, ◌+◌, ◌%◌, ◌==◌, ◌||◌, if◌then◌else◌, List, [], ◌∷◌, ◌++◌, get_or, length}
use Rattle.std.specs.Prelude.{codes, decimal, filter, map, slice_get}
use Rattle.std.specs.declared.option.Option.{Option}
use Rattle.std.specs.Borrow.{Bor}
use Rattle.std.specs.List.{concat, enumerate_from, flat_map}
use Rattle.std.specs.Option.{unwrap_or}
use Rattle.omf_module.specs.Module.{Module, Segment}
use Rattle.omf_place.specs.declared.layout.Position.{Position}
use Rattle.omf_place.specs.declared.layout.Position.TheVariants.{Absolute, Relocatable}
use Rattle.omf_place.specs.Layout.{Layout, ModulePlaces, places_of, segment_position}
use Rattle.omf_text.specs.Printing.{hexadecimal, right}
use Rattle.omf_lines.specs.Lines.{is_of, module_lines, module_name}
use Rattle.omf_lines.specs.declared.line.Line.{Line}
use Rattle.link_map.specs.Public.{Public}
use Rattle.link_map.specs.Publics.{listed_at}

-- ---- where a line stands: as a public of its group and its segment, with its offset

-- the frame of a line in a segment with this frame: that of its group, where it is one of its module's, and else the
-- segment's
abbrev pub line_frame : ModulePlaces → (group : ℕ) → (own : Option ℕ) → Option ℕ
line_frame places zero own = own
line_frame places (suc before) own = get_or places.groups before own

-- a line of a segment that stands there
abbrev pub line_position : ModulePlaces → Line → Position → Position
line_position places line (Relocatable start own) =
    Relocatable (start + line.offset) (line_frame places line.group own)
line_position places line (Absolute start frame) = Absolute (start + line.offset) frame

-- the same as the map lists it
abbrev pub line_place : ModulePlaces → Line → Position → Public
line_place places line position = listed_at [] (line_position places line position)

-- ---- the lines of a segment

-- a line number in six columns, and the place of its code
abbrev pub number_text : (number frame offset : ℕ) → List ℕ
number_text number frame offset = right 6 (decimal number)
    ++ concat (codes " " ∷ hexadecimal 4 frame ∷ codes ":" ∷ hexadecimal 4 offset ∷ [])

-- four stand in a row: behind the fourth of each row, and the last of so many, the row ends
abbrev pub row_end : (count index : ℕ) → List ℕ
row_end count index = if (index % 4 == 3) || (index + 1 == count) then codes "\n" else []

-- a line, which has this index among so many
abbrev pub line_text : ModulePlaces → Position → (count : ℕ) → ℕ × Line → List ℕ
line_text places position count (index, line) =
    let place = line_place places line position in
    number_text line.number place.frame place.offset ++ row_end count index

-- the lines of a segment that stands there
abbrev pub number_rows : ModulePlaces → Position → List Line → List ℕ
number_rows places position lines = flat_map (line_text places position (length lines)) (enumerate_from 0 lines)

-- what stands in front of them: the module's file, its own name, and the segment's
abbrev pub numbers_heading : (file name segment : List ℕ) → List ℕ
numbers_heading file name segment = concat (codes "\nLine numbers for " ∷ file ∷ codes "(" ∷ name
    ∷ codes ") segment " ∷ segment ∷ codes "\n\n" ∷ [])

-- both; nothing of a segment that has no lines
abbrev pub segment_numbers : ModulePlaces → Position → (heading : List ℕ) → List Line → List ℕ
segment_numbers places position heading [] = []
segment_numbers places position heading (line ∷ lines) = heading ++ number_rows places position (line ∷ lines)

-- ---- those of a program

-- the bytes that slices stand for
abbrev pub bytes_of : List (Bor (List ℕ)) → List (List ℕ)
bytes_of slices = map (λ slice. slice.now) slices

-- of a segment of a module, by its index there; the module is the input with this index, and its lines are these
abbrev pub lines_in_segment : Layout → (file name : List ℕ) → List Line → (input : ℕ) → ℕ × Segment → List ℕ
lines_in_segment layout file name lines input (index, segment) =
    segment_numbers (places_of layout input) (segment_position layout input index)
    (numbers_heading file name segment.name) (filter (is_of (index + 1)) lines)

-- of each of its segments, in order of their indexes
abbrev pub lines_in_segments : Layout → (file name : List ℕ) → List Line → ℕ × Module → List ℕ
lines_in_segments layout file name lines (input, m) =
    flat_map (lines_in_segment layout file name lines input) (enumerate_from 0 m.segments)

-- of a module that these bytes begin with
abbrev pub module_numbers : Layout → (file bytes : List ℕ) → ℕ × Module → List ℕ
module_numbers layout file bytes = lines_in_segments layout file (module_name bytes) (module_lines bytes)

-- of all modules, which these inputs begin with, whose files are those
abbrev pub number_lines : List Module → Layout → (inputs files : List (List ℕ)) → List ℕ
number_lines modules layout inputs files = flat_map
    (λ p. module_numbers layout (unwrap_or (slice_get files p.0) []) (unwrap_or (slice_get inputs p.0) []) p)
    (enumerate_from 0 modules)
