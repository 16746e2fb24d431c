-- COMDATs as the fourteen say them (TIS OMF 1.1, "Initialized Communal Data Record"). One that is taken is a segment of its
-- own, behind those of the module so far, with a public name at its front ("Public Names Definition Record") and data; a
-- record that goes on with it is data of that segment. One that is left out says nothing.
use Rattle.std.specs.Prelude.{ℕ, zero, suc, ◌+◌, Bool, false, if◌then◌else◌, nat_lt, List, [], ◌∷◌, codes, length, slice_get}
use Rattle.std.specs.Prelude.{None, Some, Ok, Err}
use Rattle.std.specs.declared.option.Option.{Option}
use Rattle.std.specs.declared.result.Result.{Result}
use Rattle.std.specs.List.{position_from}
use Rattle.std.specs.Option.{ok_or, option_to_list, unwrap_or}
use Rattle.std.specs.Str.{bytes_eq}
use Rattle.omf_comdat.specs.declared.fate.ComdatFate.{ComdatFate}
use Rattle.omf_comdat.specs.declared.fate.ComdatFate.TheVariants.{Opens, Continues, LeftOut, Stray}
use Rattle.omf_extended.specs.Said as later
use Rattle.omf_extended.specs.declared.comdats.Comdat.{Comdat}
use Rattle.omf_extended.specs.declared.comdats.ComdatAlignment.{ComdatAlignment}
use Rattle.omf_extended.specs.declared.comdats.ComdatAlignment.TheVariants as asks
use Rattle.omf_extended.specs.declared.comdats.ComdatAllocation.{ComdatAllocation}
use Rattle.omf_extended.specs.declared.comdats.ComdatAllocation.TheVariants.{Explicit, FarCode, FarData, Code32, Data32}
use Rattle.omf_library.specs.Entries.{listed_name}
use Rattle.omf_record.specs.Record.{Record, Segdef, Pubdef, Ledata}
use Rattle.omf_record.specs.declared.externals.PublicBase.TheVariants.{AtFrame, InSegment}
use Rattle.omf_record.specs.declared.segments.Alignment.{Alignment}
use Rattle.omf_record.specs.declared.segments.Alignment.TheVariants as align
use Rattle.omf_record.specs.declared.segments.Combination.{Combination}
use Rattle.omf_record.specs.declared.segments.Combination.TheVariants.{Private, Public2, Common}
use Rattle.omf_record.specs.declared.segments.SegmentDefinition.{SegmentDefinition}
use Rattle.omf_record.specs.declared.segments.SegmentLength.{SegmentLength}
use Rattle.omf_wide.specs.declared.segments.WideSegment.{WideSegment}
use Rattle.omf_plain.specs.declared.comdats.Opening.{Opening}
use Rattle.omf_plain.specs.declared.fault.Obstacle.{Obstacle}
use Rattle.omf_plain.specs.declared.fault.Obstacle.TheVariants.{Above16Bits, Body, FlatFrame, OtherType, TooLong}
use Rattle.omf_plain.specs.Data.{KeptOut, Repeated}
use Rattle.omf_plain.specs.Flat.{is_flat}
use Rattle.omf_plain.specs.Given.{Given, Later}
use Rattle.omf_plain.specs.Plain.{Taking, plain}
use Rattle.omf_plain.specs.Seen.{Seen, is_out, seen_after}
use Rattle.omf_plain.specs.Segments.{plain_length}
use Rattle.omf_plain.specs.Step.{◌>>=◌}

-- what becomes of the COMDAT record that is the next one of the module; none where it isn't known
abbrev pub fate_of : Taking → Seen → Option ComdatFate
fate_of t seen = slice_get t.comdats seen.comdats

-- a number of 16 bits
abbrev pub word : ℕ → Result ℕ Obstacle
word n = if nat_lt n 65536 then Ok n else Err Above16Bits

-- ---- the segment of one that is taken

-- the alignment that it asks for, or that of what it is put into
abbrev pub alignment_of : ComdatAlignment → (of_segment : Alignment) → Alignment
alignment_of asks.OfSegment of_segment = of_segment
alignment_of asks.Byte of_segment = align.Byte
alignment_of asks.Word of_segment = align.Word
alignment_of asks.Paragraph of_segment = align.Paragraph
alignment_of asks.Page of_segment = align.Page
alignment_of asks.DoubleWord of_segment = align.DoubleWord

-- the combination of the segment that it is put into; but it stands behind the parts of a common one, and not over them
abbrev pub combination_of : Combination → Combination
combination_of Common = Public2
combination_of other = other

-- the index, from 1 on, of the first name that is this text; 0 where there is none
abbrev pub index_of : (names : List (List ℕ)) → (text : List ℕ) → ℕ
index_of names text = unwrap_or (position_from (λ name. bytes_eq name text) 1 names) 0

-- one that is put into a segment: a part of it
abbrev pub part_of : WideSegment → ComdatAlignment → SegmentLength → SegmentDefinition
part_of s alignment length = record {
  alignment = alignment_of alignment s.alignment;
  combination = combination_of s.combination;
  length = length;
  name = s.name;
  class = s.class;
  overlay = s.overlay;
}

-- one that is put anywhere: a private segment of its name
abbrev pub apart : Comdat → (class : ℕ) → SegmentLength → SegmentDefinition
apart c class length = record {
  alignment = alignment_of c.alignment align.Paragraph;
  combination = Private;
  length = length;
  name = c.name;
  class = class;
  overlay = 0;
}

-- the segment with this index, from 1 on
abbrev pub listed_segment : List WideSegment → ℕ → Option WideSegment
listed_segment segments zero = None
listed_segment segments (suc before) = slice_get segments before

-- Its segment. A base of COMDATs that is a frame isn't taken, nor one that counts from FLAT; the segment of a base is
-- one of the SEGDEFs before it.
abbrev pub segment_of : Seen → Comdat → SegmentLength → ComdatAllocation → Result SegmentDefinition Obstacle
segment_of seen c length (Explicit (AtFrame group frame)) = Err OtherType
segment_of seen c length (Explicit (InSegment group segment)) =
    if is_flat seen.flat group then Err FlatFrame
    else (ok_or (listed_segment seen.segments segment) Body >>= λ s. Ok (part_of s c.alignment length))
segment_of seen c length FarCode = word (index_of seen.names (codes "CODE")) >>= λ class. Ok (apart c class length)
segment_of seen c length Code32 = word (index_of seen.names (codes "CODE")) >>= λ class. Ok (apart c class length)
segment_of seen c length FarData = word (index_of seen.names (codes "FAR_DATA")) >>= λ class. Ok (apart c class length)
segment_of seen c length Data32 = word (index_of seen.names (codes "FAR_DATA")) >>= λ class. Ok (apart c class length)

-- the group of its public name
abbrev pub group_of : ComdatAllocation → ℕ
group_of (Explicit (InSegment group segment)) = group
group_of _ = 0

-- it is put into a segment that is kept out
abbrev pub is_put_out : Seen → ComdatAllocation → Bool
is_put_out seen (Explicit (InSegment group segment)) = is_out seen.kept_out segment
is_put_out seen _ = false

-- the index of the next segment
abbrev pub next_segment : Seen → ℕ
next_segment seen = length seen.segments + seen.opened + 1

-- what a record of this name opens, where all its records have so many bytes
abbrev pub opening : Seen → Comdat → (name : List ℕ) → (length : ℕ) → Result Opening Obstacle
opening seen c name bytes =
    plain_length false false bytes >>= λ len. segment_of seen c len c.allocation >>= λ segment.
    word (next_segment seen) >>= λ index. word c.offset >>= λ offset.
    if nat_lt 255 (length name) then Err TooLong
    else Ok (record { segment = segment; group = group_of c.allocation; index = index; offset = offset })

-- ---- what its records say

-- one that opens it
abbrev pub opened_says : Comdat → (name bytes : List ℕ) → Opening → List Record
opened_says c name bytes o =
    Segdef o.segment
    ∷ Pubdef c.local (InSegment o.group o.index) (record { name = name; offset = 0; type_index = c.type_index } ∷ [])
    ∷ Ledata o.index o.offset bytes ∷ []

-- one that goes on with that of the segment with this index, or with one that is kept out
abbrev pub continued_says : Comdat → (bytes : List ℕ) → Option ℕ → Result (List Record) Obstacle
continued_says c bytes None = Ok []
continued_says c bytes (Some index) = word c.offset >>= λ offset. Ok (Ledata index offset bytes ∷ [])

-- one that goes on with the COMDAT before it; repeated data isn't taken
abbrev pub continuing_says : Seen → Comdat → (bytes : List ℕ) → Result (List Record) Obstacle
continuing_says seen c bytes = if c.iterated then Err OtherType else continued_says c bytes seen.current

-- one that opens a COMDAT of this name, in which all its records have so many bytes
abbrev pub opening_says : Seen → Comdat → (name bytes : List ℕ) → (length : ℕ) → Result (List Record) Obstacle
opening_says seen c name bytes length =
    if c.iterated then Err OtherType
    else if is_put_out seen c.allocation then Ok []
    else (opening seen c name length >>= λ o. Ok (opened_says c name bytes o))

-- by what becomes of it
abbrev pub fated_says : Seen → Comdat → (name bytes : List ℕ) → ComdatFate → Result (List Record) Obstacle
fated_says seen c name bytes Stray = Err Body
fated_says seen c name bytes LeftOut = Ok []
fated_says seen c name bytes (Opens length) = opening_says seen c name bytes length
fated_says seen c name bytes Continues = continuing_says seen c bytes

-- its name is listed, and what becomes of it is known
abbrev pub comdat_says : Taking → Seen → Comdat → (bytes : List ℕ) → Result (List Record) Obstacle
comdat_says t seen c bytes =
    ok_or (listed_name seen.names c.name) Body >>= λ name. ok_or (fate_of t seen) OtherType >>= λ fate.
    fated_says seen c name bytes fate

-- ---- what is known behind one

-- its data is kept out
abbrev pub seen_without : Seen → Seen
seen_without seen = record seen { current = None; last = KeptOut }

-- its data is that of the segment with this index
abbrev pub seen_within : Seen → (index : ℕ) → (bytes : List ℕ) → Seen
seen_within seen index bytes = record seen { current = Some index; last = Repeated ((0, bytes) ∷ []) }

abbrev pub seen_continued : Seen → (bytes : List ℕ) → Option ℕ → Seen
seen_continued seen bytes None = seen_without seen
seen_continued seen bytes (Some index) = seen_within seen index bytes

abbrev pub seen_fated : Seen → Comdat → (bytes : List ℕ) → Option ComdatFate → Seen
seen_fated seen c bytes (Some (Opens length)) =
    if is_put_out seen c.allocation then seen_without seen
    else record (seen_within seen (next_segment seen) bytes) { opened = seen.opened + 1 }
seen_fated seen c bytes (Some Continues) = seen_continued seen bytes seen.current
seen_fated seen c bytes _ = seen_without seen

abbrev pub seen_after_comdat : Taking → Seen → Comdat → (bytes : List ℕ) → Seen
seen_after_comdat t seen c bytes =
    seen_fated (record seen { comdats = seen.comdats + 1 }) c bytes (fate_of t seen)

-- ---- any record

-- what a COMDAT says, and its data
abbrev pub comdat_in : Given → Option (Comdat × List ℕ)
comdat_in (Later (later.Comdat wide c bytes)) = Some (c, bytes)
comdat_in _ = None

abbrev pub says_by : Taking → Seen → Given → Option (Comdat × List ℕ) → Result (List Record) Obstacle
says_by t seen g (Some x) = comdat_says t seen x.0 x.1
says_by t seen g None = plain t seen g >>= λ found. Ok (option_to_list found)

-- the records of the fourteen that say what a record does: up to three for a COMDAT, and at most one for any other
abbrev pub says_of : Taking → Seen → Given → Result (List Record) Obstacle
says_of t seen g = says_by t seen g (comdat_in g)

abbrev pub seen_by_comdat : Taking → Seen → Given → Option (Comdat × List ℕ) → Seen
seen_by_comdat t seen g (Some x) = seen_after_comdat t seen x.0 x.1
seen_by_comdat t seen g None = seen_after t.keep_debug seen g

-- what is known behind a record
abbrev pub seen_behind : Taking → Seen → Given → Seen
seen_behind t seen g = seen_by_comdat t seen g (comdat_in g)
