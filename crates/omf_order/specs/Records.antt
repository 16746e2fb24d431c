-- The records of the order module (TIS OMF 1.1, the section of each), and its bytes.
use Rattle.std.specs.Prelude.{ℕ, Bool, ◌+◌, ◌*◌, ◌==◌, ◌&&◌, false, List, [], ◌∷◌, ◌++◌, map, replicate}
use Rattle.std.specs.Prelude.{if◌then◌else◌, Option, None, Some, codes}
use Rattle.std.specs.Option.{option_to_list}
use Rattle.omf_module.specs.declared.Kind.{Kind}
use Rattle.omf_module.specs.declared.Kind.TheVariants as kind
use Rattle.omf_record.specs.declared.segments.Alignment.{Alignment}
use Rattle.omf_record.specs.declared.segments.Combination.{Combination}
use Rattle.omf_record.specs.declared.segments.SegmentDefinition.{SegmentDefinition}
use Rattle.omf_record.specs.declared.externals.PublicBase.TheVariants.{InSegment}
use Rattle.omf_record.specs.declared.segments.Alignment.TheVariants as align
use Rattle.omf_record.specs.declared.segments.Combination.TheVariants as combine
use Rattle.omf_record.specs.Record.{Record, Theadr, Lnames, Segdef, Grpdef, Pubdef, Ledata, Modend, Public}
pub use Rattle.omf_write.specs.Records.{record_bytes, records_bytes}
use Rattle.omf_write.specs.Segments.{segment_of_length}
use Rattle.omf_order.specs.Segments.{dgroup}
use Rattle.omf_order.specs.Parts.{Part, is_text}
use Rattle.omf_order.specs.Plan.{Plan}

-- the alignment of so many bytes, of which there are five
abbrev pub alignment_of : ℕ → Alignment
alignment_of bytes =
    if bytes == 1 then align.Byte
    else if bytes == 2 then align.Word
    else if bytes == 4 then align.DoubleWord
    else if bytes == 16 then align.Paragraph
    else align.Page

-- how a kind is said
abbrev pub combination_of : Kind → Combination
combination_of kind.Private = combine.Private
combination_of kind.Public = combine.Public2
combination_of kind.Stack = combine.Stack
combination_of kind.Common = combine.Common

-- a part has null bytes: that of `_TEXT`, where they are asked for
abbrev pub has_nulls : (null_bytes : Bool) → Part → Bool
has_nulls null_bytes p = null_bytes && is_text p

-- what stands in front of the `_TEXT` of the modules then, so that nothing of it has the offset 0
abbrev pub null_data : List ℕ
null_data = replicate 16 0

-- the length of a part
abbrev pub length_of : (has_nulls : Bool) → ℕ
length_of has_nulls = if has_nulls then 16 else 0

-- the SEGDEF of the part at a place: its name and class are behind those of the parts before it and DGROUP
abbrev pub definition : (place : ℕ) → (has_nulls : Bool) → Part → SegmentDefinition
definition place has_nulls p =
    segment_of_length (alignment_of p.alignment) (combination_of p.kind) (length_of has_nulls) (2 * place + 2)
    (2 * place + 3)

-- its record
abbrev pub segment_record : (place : ℕ) → (has_nulls : Bool) → Part → Record
segment_record place has_nulls p = Segdef (definition place has_nulls p)

-- the segment index of the part at a place
abbrev pub segment_index : ℕ → ℕ
segment_index place = place + 1

-- the null bytes of the part at a place
abbrev pub null_record : (place : ℕ) → Record
null_record place = Ledata (segment_index place) 0 null_data

-- those, if it has any
abbrev pub null_records : (place : ℕ) → (has_nulls : Bool) → List Record
null_records place has_nulls = if has_nulls then null_record place ∷ [] else []

-- the names, the SEGDEF and the null bytes of the part at a place
abbrev pub records_of : (null_bytes : Bool) → (place : ℕ) → Part → List Record
records_of null_bytes place p =
    Lnames (p.name ∷ p.class ∷ []) ∷ segment_record place (has_nulls null_bytes p) p
    ∷ null_records place (has_nulls null_bytes p)

-- those of each part, the first at this place
abbrev pub part_records : (null_bytes : Bool) → (place : ℕ) → List Part → List Record
part_records null_bytes place [] = []
part_records null_bytes place (p ∷ ps) =
    records_of null_bytes place p ++ part_records null_bytes (place + 1) ps

-- DGROUP of these segments, if there are any
abbrev pub group_records : List ℕ → List Record
group_records [] = []
group_records (segment ∷ segments) = Grpdef 1 (segment ∷ segments) ∷ []

-- a name at the begin of its segment
abbrev pub public_of : List ℕ → Public
public_of name = record { name = name; offset = 0; type_index = 0 }

-- the public names of a mark, at the begin of a part
abbrev pub mark_record : List (List ℕ) → ℕ → Record
mark_record names place = Pubdef false (InSegment 1 (segment_index place)) (map public_of names)

-- those, if there is a part for them
abbrev pub mark_records : List (List ℕ) → Option ℕ → List Record
mark_records names None = []
mark_records names (Some place) = mark_record names place ∷ []

-- the segments of the marks
abbrev pub mark_segments : Plan → List ℕ
mark_segments p = map segment_index (option_to_list p.data_end.part ++ option_to_list p.bss_end.part)

-- what comes behind the segments
abbrev pub last_records : Plan → List Record
last_records p = group_records (mark_segments p) ++ (mark_records p.data_end.names p.data_end.part
    ++ (mark_records p.bss_end.names p.bss_end.part ++ Modend false None ∷ []))

-- all records
abbrev pub records : Plan → List Record
records p = Theadr (codes "doslink") ∷ Lnames (dgroup ∷ []) ∷ (part_records p.null_bytes 0 p.parts ++ last_records p)

-- the module
abbrev pub module_bytes : Plan → List ℕ
module_bytes p = records_bytes (records p)
