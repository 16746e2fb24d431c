-- What is printed of a module around a byte of a program's image: the byte's offset in each of its segments that has it,
-- by where these stand.
use Rattle.std.specs.Prelude.{ℕ, ◌-◌, nat_le, nat_lt, ◌&&◌, if◌then◌else◌, List, [], ◌∷◌, codes, slice_get, Some, None}
use Rattle.std.specs.declared.option.Option.{Option}
use Rattle.std.specs.List.{concat, flat_map}
use Rattle.std.specs.Option.{option_map_or}
use Rattle.omf_text.specs.Printing.{hexadecimal, printed_name}
use Rattle.omf_module.specs.Module.{Module, Segment}
use Rattle.omf_match.specs.declared.finding.Stand.{Stand}
use Rattle.omf_match.specs.Matching.{stands}

-- the offset of the byte at an address in so many bytes that stand at a place, if it is one of them
abbrev pub offset_in : (place len address : ℕ) → Option ℕ
offset_in place len address =
    if nat_le place address && nat_lt (address - place) len then Some (address - place) else None

-- the line of a segment: the byte's offset, the segment's name and its class
abbrev pub offset_line : Segment → (offset : ℕ) → List ℕ
offset_line segment offset =
    concat (codes "  " ∷ hexadecimal 8 offset ∷ codes " in " ∷ printed_name segment.name ∷ codes " "
    ∷ printed_name segment.class ∷ codes "\n" ∷ [])

-- that of one that stands at a place, if it has the byte at an address
abbrev pub segment_byte_line : (address place : ℕ) → Segment → List ℕ
segment_byte_line address place segment =
    option_map_or (offset_line segment) (offset_in place segment.length address) []

abbrev pub stand_byte_line : Module → (address : ℕ) → Stand → List ℕ
stand_byte_line m address stand =
    option_map_or (segment_byte_line address stand.place) (slice_get m.segments stand.segment) []

-- those of a module
abbrev pub byte_lines : Module → (image : List ℕ) (address : ℕ) → List ℕ
byte_lines m image address = flat_map (stand_byte_line m address) (stands m image)
