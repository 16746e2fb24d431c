-- The line numbers that a module says (TIS OMF 1.1, "94H or 95H LINNUM: Line Numbers Record"), and its name.
use Rattle.std.specs.Prelude.{ℕ, ◌+◌, ◌*◌, ◌==◌, ◌||◌, Bool, if◌then◌else◌, List, [], ◌∷◌, filter, map, nat_lt}
use Rattle.std.specs.Prelude.{slice_get, Some, None}
use Rattle.std.specs.declared.option.Option.{Option}
use Rattle.std.specs.List.{flat_map}
use Rattle.std.specs.Option.{option_and_then, option_map, option_map_or, unwrap_or}
use Rattle.omf_frame.specs.Frame.{Frame}
use Rattle.omf_library.specs.Entries.{entries}
use Rattle.omf_library.specs.Fields.{index_front, name_front}
use Rattle.omf_library.specs.Records.{module_records}
use Rattle.omf_lines.specs.declared.line.Line.{Line}

-- a line number and an offset, a word each
abbrev pub pair_front : List ℕ → Option ((ℕ × ℕ) × List ℕ)
pair_front (low ∷ high ∷ from_low ∷ from_high ∷ rest) =
    Some ((low + 256 * high, from_low + 256 * from_high), rest)
pair_front bytes = None

-- the same with an offset of four bytes
abbrev pub wide_pair_front : List ℕ → Option ((ℕ × ℕ) × List ℕ)
wide_pair_front (low ∷ high ∷ first ∷ second ∷ third ∷ fourth ∷ rest) =
    Some ((low + 256 * high, first + 256 * second + 65536 * (third + 256 * fourth)), rest)
wide_pair_front bytes = None

-- a line number, and an offset that is one in a segment of at most 65,536 bytes
abbrev pub is_in_16_bits : ℕ × ℕ → Bool
is_in_16_bits (number, offset) = nat_lt offset 65536

-- such line numbers alone
abbrev pub wide_pairs : List ℕ → List (ℕ × ℕ)
wide_pairs bytes = filter is_in_16_bits (entries wide_pair_front bytes)

-- a line of a group and a segment
abbrev pub line_of : (group segment : ℕ) → ℕ × ℕ → Line
line_of group segment pair = record { number = pair.0; group = group; segment = segment; offset = pair.1 }

-- the lines behind the index of a group, where these are the line numbers in bytes
abbrev pub lines_behind : (List ℕ → List (ℕ × ℕ)) → ℕ × List ℕ → List Line
lines_behind pairs (group, rest) =
    option_map_or (λ (segment, after). map (line_of group segment) (pairs after)) (index_front rest) []

-- those of the body of a record: the index of a group, that of a segment, and line numbers with their offsets
abbrev pub lines_of_body : (List ℕ → List (ℕ × ℕ)) → List ℕ → List Line
lines_of_body pairs body = option_map_or (lines_behind pairs) (index_front body) []

-- the lines of a record: LINNUM, 94H with offsets of two bytes, 95H with offsets of four
unfoldable pub lines_in : Frame → List Line
lines_in f =
    if f.kind == 0x94 then lines_of_body (entries pair_front) f.body
    else if f.kind == 0x95 then lines_of_body wide_pairs f.body
    else []

-- those of the module that begins the bytes, in order of records
abbrev pub module_lines : (bytes : List ℕ) → List Line
module_lines bytes = flat_map lines_in (module_records bytes 0)

-- a line is of a segment, by its index
abbrev pub is_of : (segment : ℕ) → Line → Bool
is_of segment line = line.segment == segment

-- the name in a record that heads a module: 80H THEADR, 82H LHEADR
abbrev pub name_in : Frame → Option (List ℕ)
name_in f =
    if (f.kind == 0x80) || (f.kind == 0x82) then option_map (λ (name, rest). name) (name_front f.body) else None

-- that of the module of these records
abbrev pub name_of : List Frame → List ℕ
name_of records = unwrap_or (option_and_then name_in (slice_get records 0)) []

-- that of the module that begins the bytes
abbrev pub module_name : (bytes : List ℕ) → List ℕ
module_name bytes = name_of (module_records bytes 0)
