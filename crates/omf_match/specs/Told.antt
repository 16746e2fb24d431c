-- What `match` prints of a module in a program: where its segments stand in the image, and what stands there in the
-- locations of their fix-ups.
use Rattle.std.specs.Prelude.{ℕ, ◌+◌, ◌-◌, ◌*◌, ◌==◌, Bool, if◌then◌else◌, List, [], ◌∷◌, ◌++◌, length}
use Rattle.std.specs.Prelude.{codes, decimal, drop, map, slice_get, slice_index}
use Rattle.std.specs.List.{concat, flat_map, range_with_len}
use Rattle.std.specs.Option.{option_map_or}
use Rattle.omf_record.specs.declared.fixups.Location.{Location}
use Rattle.omf_record.specs.declared.fixups.Location.TheVariants.{LowByte, Pointer}
use Rattle.omf_record.specs.declared.fixups.TargetMethod.{TargetMethod}
use Rattle.omf_record.specs.declared.fixups.TargetMethod.TheVariants as target
use Rattle.omf_record.specs.Expansion.{places}
use Rattle.omf_text.specs.Printing.{hexadecimal, printed_name, right}
use Rattle.omf_module.specs.declared.ResolvedFixup.{ResolvedFixup}
use Rattle.omf_module.specs.Module.{DataRecord, Module, Segment}
use Rattle.byte_places.specs.declared.spans.Span.{Span}
use Rattle.byte_places.specs.Gaps.{gaps}
use Rattle.omf_match.specs.declared.finding.Stand.{Stand}
use Rattle.omf_match.specs.Matching.{stands}
use Rattle.omf_match.specs.Pattern.{segment_len}

-- ---- what a fix-up refers to, by an index from 1

-- the name of a segment
abbrev pub segment_name : Module → (index : ℕ) → List ℕ
segment_name m index = option_map_or (λ s. s.name) (slice_get m.segments (index - 1)) []

-- that of a group
abbrev pub group_name : Module → (index : ℕ) → List ℕ
group_name m index = option_map_or (λ g. g.name) (slice_get m.groups (index - 1)) []

-- an external name
abbrev pub external_name : Module → (index : ℕ) → List ℕ
external_name m index = option_map_or (λ e. e.name) (slice_get m.externals (index - 1)) []

-- the name of a target
abbrev pub target_name : Module → TargetMethod → List ℕ
target_name m (target.Segment index) = segment_name m index
target_name m (target.Group index) = group_name m index
target_name m (target.External index) = external_name m index

-- the word for what it is
abbrev pub target_word : TargetMethod → List ℕ
target_word (target.Segment index) = codes "segment "
target_word (target.Group index) = codes "group "
target_word (target.External index) = codes "external "

-- that of a location that is self-relative
abbrev pub mode_word : Bool → List ℕ
mode_word self_relative = if self_relative then codes "self " else []

-- ---- the line of a fix-up

-- the word of two bytes, low byte first
abbrev pub word_of : (low high : ℕ) → ℕ
word_of low high = low + 256 * high

-- what stands in a location at the front of bytes: a byte, a word, or a frame and an offset, which stands before it
abbrev pub value : Location → List ℕ → List ℕ
value LowByte bytes = hexadecimal 2 (slice_index bytes 0)
value Pointer bytes =
    concat (hexadecimal 4 (word_of (slice_index bytes 2) (slice_index bytes 3)) ∷ codes ":"
    ∷ hexadecimal 4 (word_of (slice_index bytes 0) (slice_index bytes 1)) ∷ [])
value _ bytes = hexadecimal 4 (word_of (slice_index bytes 0) (slice_index bytes 1))

-- the front of a line: an address in the image behind spaces
abbrev pub address_text : (spaces : List ℕ) (address : ℕ) → List ℕ
address_text spaces address = concat (spaces ∷ hexadecimal 8 address ∷ codes " " ∷ [])

-- the end of the line of a fix-up
abbrev pub target_text : Module → ResolvedFixup → List ℕ
target_text m fixup =
    concat (codes " " ∷ mode_word fixup.self_relative ∷ target_word fixup.target
    ∷ printed_name (target_name m fixup.target) ∷ codes "\n" ∷ [])

-- the line of a fix-up whose location stands at an address
abbrev pub fixup_line : Module → (image : List ℕ) (address : ℕ) → ResolvedFixup → List ℕ
fixup_line m image address fixup =
    address_text (codes "    ") address ++ (value fixup.location (drop address image) ++ target_text m fixup)

-- the same at the address of a byte, where that was stored at the first place of the location
abbrev pub hit_line : Module → (image : List ℕ) → ResolvedFixup → (address stored : ℕ) → List ℕ
hit_line m image fixup address stored =
    if stored == fixup.offset then fixup_line m image address fixup else []

-- the lines of a fix-up on data with these stored places, the first byte of which stands at an address
abbrev pub hit_lines : Module → (image : List ℕ) (start : ℕ) (stored : List ℕ) → ResolvedFixup → List ℕ
hit_lines m image start stored fixup =
    flat_map (λ i. hit_line m image fixup (start + i) (slice_index stored i)) (range_with_len 0 (length stored))

-- ---- the lines of a segment

-- the line of a segment that stands at a place of the image: its length, its name and its class
abbrev pub segment_line : Segment → (place : ℕ) → List ℕ
segment_line segment place =
    concat (codes "  " ∷ hexadecimal 8 place ∷ codes " " ∷ right 7 (decimal segment.length) ∷ codes " "
    ∷ printed_name segment.name ∷ codes " " ∷ printed_name segment.class ∷ codes "\n" ∷ [])

-- those of the fix-ups on a data record, if it is one of the segment that stands at this place
abbrev pub record_lines : Module → (image : List ℕ) (place segment : ℕ) → DataRecord → List ℕ
record_lines m image place segment data' =
    if data'.segment == segment
    then flat_map (hit_lines m image (place + data'.offset) (places data'.pairs)) data'.fixups else []

-- the front of those of a segment that stands at a place
abbrev pub stand_line : Module → Stand → List ℕ
stand_line m stand = option_map_or (λ s. segment_line s stand.place) (slice_get m.segments stand.segment) []

-- those of a segment that stands at a place
abbrev pub stand_lines : Module → (image : List ℕ) → Stand → List ℕ
stand_lines m image stand =
    stand_line m stand ++ flat_map (record_lines m image stand.place stand.segment) m.data_records

-- ---- all lines

-- those of a module
abbrev pub module_lines : Module → (image : List ℕ) → List ℕ
module_lines m image = flat_map (stand_lines m image) (stands m image)

-- the same behind the line of the module; nothing of one of which no segment stands
abbrev pub titled : (path name told : List ℕ) → List ℕ
titled path name [] = []
titled path name (byte ∷ bytes) =
    concat (codes "module " ∷ printed_name path ∷ codes " " ∷ printed_name name ∷ codes "\n" ∷ (byte ∷ bytes) ∷ [])

-- the bytes that a segment has where it stands
abbrev pub span_of : Module → Stand → Span
span_of m stand = record { start = stand.place; end = stand.place + segment_len m stand.segment }

-- those of a module
abbrev pub module_spans : Module → (image : List ℕ) → List Span
module_spans m image = map (span_of m) (stands m image)

-- the line of bytes of the image that no segment has: their first address, and how many they are
abbrev pub gap_line : Span → List ℕ
gap_line gap =
    concat (codes "left " ∷ hexadecimal 8 gap.start ∷ codes " " ∷ right 7 (decimal (gap.end - gap.start))
    ∷ codes "\n" ∷ [])

-- all of them
abbrev pub left_lines : List Span → (len : ℕ) → List ℕ
left_lines spans len = flat_map gap_line (gaps spans len)
