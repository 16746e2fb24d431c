-- The parts of what a record says, as they are printed (TIS OMF 1.1, the section of each).
use Rattle.std.specs.Prelude.{ℕ, ◌==◌, Bool, true, false, if◌then◌else◌, List, [], ◌∷◌, ◌++◌, Some, None, codes}
use Rattle.std.specs.Prelude.{decimal}
use Rattle.std.specs.declared.option.Option.{Option}
use Rattle.std.specs.List.{concat, flat_map}
use Rattle.omf_record.specs.declared.externals.Line.{Line}
use Rattle.omf_record.specs.declared.externals.PublicBase.{PublicBase}
use Rattle.omf_record.specs.declared.externals.PublicBase.TheVariants.{AtFrame, InSegment}
use Rattle.omf_record.specs.declared.fixups.Datum.{Datum}
use Rattle.omf_record.specs.declared.fixups.Datum.TheVariants as datum
use Rattle.omf_record.specs.declared.fixups.FrameMethod.{FrameMethod}
use Rattle.omf_record.specs.declared.fixups.FrameMethod.TheVariants as frame
use Rattle.omf_record.specs.declared.fixups.Location.{Location}
use Rattle.omf_record.specs.declared.fixups.Location.TheVariants as location
use Rattle.omf_record.specs.declared.fixups.TargetMethod.{TargetMethod}
use Rattle.omf_record.specs.declared.fixups.TargetMethod.TheVariants as target
use Rattle.omf_record.specs.declared.segments.Alignment.{Alignment}
use Rattle.omf_record.specs.declared.segments.Alignment.TheVariants as align
use Rattle.omf_record.specs.declared.segments.Combination.{Combination}
use Rattle.omf_record.specs.declared.segments.Combination.TheVariants as combine
use Rattle.omf_record.specs.Numbers.{thread_number}
use Rattle.omf_record.specs.Record.{External, Public, Block, Blocks, Content, Nested, End, More}
use Rattle.omf_wide.specs.declared.externals.ListedExternal.{ListedExternal}
use Rattle.omf_wide.specs.declared.fixups.WideLocation.{WideLocation}
use Rattle.omf_wide.specs.declared.fixups.WideLocation.TheVariants.{Of16Bits, Offset32, LoaderOffset32}
use Rattle.omf_wide.specs.declared.fixups.WideReference.{WideReference}
use Rattle.omf_wide.specs.declared.fixups.WideSubrecord.{WideSubrecord}
use Rattle.omf_wide.specs.declared.fixups.WideSubrecord.TheVariants as sub
use Rattle.omf_text.specs.Printing.{hexadecimal, printed_name}
use Rattle.doslib_show.specs.Data.{row, spaced}
use Rattle.doslib_show.specs.Names.{Names, named}

-- what stands behind the type on its line
abbrev pub rest : List (List ℕ) → List ℕ
rest parts = concat (parts ++ (codes "\n" ∷ []))

-- a name
abbrev pub name_rest : List ℕ → List ℕ
name_rest name = rest (codes " " ∷ printed_name name ∷ [])

-- ---- names

-- a name of LNAMES
abbrev pub name_row : List ℕ → List ℕ
name_row name = row (printed_name name ∷ [])

-- EXTDEF
abbrev pub external_row : External → List ℕ
external_row e = row (printed_name e.name ∷ codes " type " ∷ decimal e.type_index ∷ [])

-- CEXTDEF
abbrev pub listed_row : Names → ListedExternal → List ℕ
listed_row names e = row (named names.listed e.name ∷ codes " type " ∷ decimal e.type_index ∷ [])

-- PUBDEF
abbrev pub public_row : Public → List ℕ
public_row p =
    row (printed_name p.name ∷ codes " offset " ∷ hexadecimal 4 p.offset ∷ codes " type " ∷ decimal p.type_index ∷ [])

-- a group, where there is one
abbrev pub group_of : Names → ℕ → List ℕ
group_of names group = if group == 0 then [] else codes " group " ++ named names.groups group

-- a group, where there is one, and a segment
abbrev pub segment_base : Names → (group segment : ℕ) → List (List ℕ)
segment_base names group segment = group_of names group ∷ codes " segment " ∷ named names.segments segment ∷ []

-- the base of PUBDEF
abbrev pub public_base : Names → PublicBase → List (List ℕ)
public_base names (AtFrame group frame) = group_of names group ∷ codes " frame " ∷ hexadecimal 4 frame ∷ []
public_base names (InSegment group segment) = segment_base names group segment

-- ---- segments, groups and line numbers

-- where a segment begins: SEGDEF, the field A
abbrev pub alignment : Alignment → List ℕ
alignment (align.Absolute frame offset) =
    concat (codes "absolute frame " ∷ hexadecimal 4 frame ∷ codes " offset " ∷ hexadecimal 2 offset ∷ [])
alignment align.Byte = codes "byte"
alignment align.Word = codes "word"
alignment align.Paragraph = codes "paragraph"
alignment align.Page = codes "page"
alignment align.DoubleWord = codes "dword"

-- how it is combined: the field C
abbrev pub combination : Combination → List ℕ
combination combine.Private = codes "private"
combination combine.Public2 = codes "public"
combination combine.Public4 = codes "public4"
combination combine.Stack = codes "stack"
combination combine.Common = codes "common"
combination combine.Public7 = codes "public7"

-- a word that stands there or doesn't
abbrev pub flag : Bool → List ℕ → List ℕ
flag set word = if set then word else []

-- GRPDEF: a segment of a group
abbrev pub component_row : Names → ℕ → List ℕ
component_row names segment = row (codes "segment " ∷ named names.segments segment ∷ [])

-- LINNUM
abbrev pub line_row : Line → List ℕ
line_row l = row (codes "line " ∷ decimal l.number ∷ codes " offset " ∷ hexadecimal 4 l.offset ∷ [])

-- ---- threads and fix-ups

-- the methods T0, T1 and T2
abbrev pub target_method : Names → TargetMethod → List ℕ
target_method names (target.Segment index) = codes "segment " ++ named names.segments index
target_method names (target.Group index) = codes "group " ++ named names.groups index
target_method names (target.External index) = codes "external " ++ named names.externals index

-- the methods F0, F1 and F2 as these; F4 and F5
abbrev pub frame_method : Names → FrameMethod → List ℕ
frame_method names (frame.By method) = target_method names method
frame_method names frame.Location = codes "location"
frame_method names frame.Target = codes "target"

-- a thread by its number
abbrev pub thread : ℕ → List ℕ
thread number = concat (codes "thread " ∷ decimal number ∷ [])

-- a frame, by a thread or by itself
abbrev pub frame_datum : Names → Datum FrameMethod → List ℕ
frame_datum names (datum.Thread number) = thread (thread_number number)
frame_datum names (datum.By method) = frame_method names method

-- a target, likewise
abbrev pub target_datum : Names → Datum TargetMethod → List ℕ
target_datum names (datum.Thread number) = thread (thread_number number)
target_datum names (datum.By method) = target_method names method

-- what is added to a target's address: nothing where it is absent
abbrev pub displacement : Option ℕ → List ℕ
displacement None = []
displacement (Some distance) = concat (codes " displacement " ∷ hexadecimal 4 distance ∷ [])

-- a frame, a target, and what is added to its address
abbrev pub reference : Names → WideReference → List (List ℕ)
reference names r =
    codes "frame " ∷ frame_datum names r.frame ∷ codes " target " ∷ target_datum names r.target
    ∷ displacement r.displacement ∷ []

-- what a fix-up fixes, with its width in bits where the word has more than one
abbrev pub narrow_location : Location → List ℕ
narrow_location location.LowByte = codes "byte"
narrow_location location.Offset = codes "offset16"
narrow_location location.Base = codes "base"
narrow_location location.Pointer = codes "pointer"
narrow_location location.LoaderOffset = codes "loader16"

abbrev pub location_word : WideLocation → List ℕ
location_word (Of16Bits location) = narrow_location location
location_word Offset32 = codes "offset32"
location_word LoaderOffset32 = codes "loader32"

-- whether what a fix-up puts there counts from the location or from a frame
abbrev pub mode : (self_relative : Bool) → List ℕ
mode true = codes "self-relative"
mode false = codes "segment-relative"

-- a part of a FIXUPP
abbrev pub subrecord_row : Names → WideSubrecord → List ℕ
subrecord_row names (sub.SetFrame number method) =
    row (codes "frame " ∷ thread (thread_number number) ∷ codes " " ∷ frame_method names method ∷ [])
subrecord_row names (sub.SetTarget number method) =
    row (codes "target " ∷ thread (thread_number number) ∷ codes " " ∷ target_method names method ∷ [])
subrecord_row names (sub.Fixup f) =
    row (codes "at " ∷ hexadecimal 3 f.offset ∷ codes " " ∷ mode f.self_relative ∷ codes " "
    ∷ location_word f.location ∷ codes " " ∷ reference names f.reference)

-- ---- repeated data

-- a number, and a word behind it
abbrev pub copies : ℕ → List ℕ → List ℕ
copies repeat word = concat (codes " " ∷ decimal repeat ∷ word ∷ [])

-- LIDATA: how often a block stands there, and its bytes, or the blocks of which it is made between parentheses
abbrev mutual
  pub block_text : Block → List ℕ
  block_text (Content repeat bytes) = copies repeat (codes " x") ++ flat_map spaced bytes
  block_text (Nested repeat blocks) = copies repeat (codes " x (") ++ (blocks_text blocks ++ codes " )")

  pub blocks_text : Blocks → List ℕ
  blocks_text End = []
  blocks_text (More block blocks) = block_text block ++ blocks_text blocks

-- a block of a record, in a row of its own
abbrev pub block_row : Block → List ℕ
block_row block = codes "     " ++ (block_text block ++ codes "\n")
