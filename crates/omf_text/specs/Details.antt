-- The lines that say what a record holds, behind its head line.
use Rattle.std.specs.Prelude.{ℕ, Bool, true, false, ◌==◌, nat_lt, if◌then◌else◌, List, [], ◌∷◌, ◌++◌, length, Some}
use Rattle.std.specs.Prelude.{None, codes, decimal}
use Rattle.std.specs.declared.option.Option.{Option}
use Rattle.std.specs.List.{concat, flat_map}
use Rattle.omf_record.specs.declared.fixups.FrameMethod.{FrameMethod}
use Rattle.omf_record.specs.declared.fixups.FrameMethod.TheVariants as frame
use Rattle.omf_record.specs.declared.fixups.TargetMethod.{TargetMethod}
use Rattle.omf_record.specs.declared.fixups.TargetMethod.TheVariants as target
use Rattle.omf_record.specs.declared.fixups.Datum.{Datum}
use Rattle.omf_record.specs.declared.fixups.Datum.TheVariants as datum
use Rattle.omf_record.specs.declared.fixups.Reference.{Reference}
use Rattle.omf_record.specs.declared.fixups.Subrecord.{Subrecord}
use Rattle.omf_record.specs.declared.fixups.Subrecord.TheVariants.{SetFrame, SetTarget, Fixup}
use Rattle.omf_record.specs.declared.externals.PublicBase.{PublicBase}
use Rattle.omf_record.specs.declared.externals.PublicBase.TheVariants.{AtFrame, InSegment}
use Rattle.omf_record.specs.declared.segments.Alignment.{Alignment}
use Rattle.omf_record.specs.declared.segments.Alignment.TheVariants as align
use Rattle.omf_record.specs.declared.segments.SegmentDefinition.{SegmentDefinition}
use Rattle.omf_record.specs.declared.externals.Line.{Line}
use Rattle.omf_record.specs.Numbers.{bit, thread_number, location_number, alignment_number, combination_number}
use Rattle.omf_record.specs.Numbers.{segment_len}
use Rattle.omf_record.specs.Body.{kind_of}
use Rattle.omf_record.specs.Expansion.{expansion}
use Rattle.omf_record.specs.Record.{External, Public, Record, Theadr, Coment, Modend, Extdef, Pubdef, Linnum, Lnames}
use Rattle.omf_record.specs.Record.{Segdef, Grpdef, Fixupp, Ledata, Lidata}
use Rattle.omf_record.specs.Records.{Placed}
use Rattle.omf_text.specs.Printing.{hexadecimal, printed_name}
use Rattle.omf_text.specs.Listing.{head_line}

-- each line stands behind two spaces
abbrev pub line : List (List ℕ) → List ℕ
line parts = concat (codes "  " ∷ (parts ++ (codes "\n" ∷ [])))

-- ---- references

-- target methods T0, T1 and T2
abbrev pub target_method : TargetMethod → List ℕ
target_method (target.Segment index) = concat (codes "method 0 index " ∷ decimal index ∷ [])
target_method (target.Group index) = concat (codes "method 1 index " ∷ decimal index ∷ [])
target_method (target.External index) = concat (codes "method 2 index " ∷ decimal index ∷ [])

-- frame methods F0, F1 and F2 as these; F4 and F5
abbrev pub frame_method : FrameMethod → List ℕ
frame_method (frame.By method) = target_method method
frame_method frame.Location = codes "method 4"
frame_method frame.Target = codes "method 5"

-- the frame of a reference: by a thread's number, or by a method
abbrev pub frame_of : Datum FrameMethod → List ℕ
frame_of (datum.Thread thread) = concat (codes "thread " ∷ decimal (thread_number thread) ∷ [])
frame_of (datum.By method) = frame_method method

-- the target of a reference, likewise
abbrev pub target_of : Datum TargetMethod → List ℕ
target_of (datum.Thread thread) = concat (codes "thread " ∷ decimal (thread_number thread) ∷ [])
target_of (datum.By method) = target_method method

-- what is added to a target's address: nothing where it is absent
abbrev pub displacement : Option ℕ → List ℕ
displacement None = []
displacement (Some distance) = concat (codes " displacement " ∷ hexadecimal 4 distance ∷ [])

-- a frame, a target, and what is added to its address
abbrev pub reference : Reference → List (List ℕ)
reference at =
    codes "frame " ∷ frame_of at.frame ∷ codes " target " ∷ target_of at.target ∷ displacement at.displacement ∷ []

-- ---- items of a record

-- the frame and the offset of an absolute segment, nothing of another
abbrev pub absolute : Alignment → List ℕ
absolute (align.Absolute frame offset) =
    concat (codes " frame " ∷ hexadecimal 4 frame ∷ codes " offset " ∷ hexadecimal 2 offset ∷ [])
absolute _ = []

-- the fields of a SEGDEF
abbrev pub segment_line : SegmentDefinition → List ℕ
segment_line segment = line (codes "align " ∷ decimal (alignment_number segment.alignment)
    ∷ codes " combine " ∷ decimal (combination_number segment.combination)
    ∷ codes " length " ∷ decimal (segment_len segment.length)
    ∷ codes " name " ∷ decimal segment.name ∷ codes " class " ∷ decimal segment.class
    ∷ codes " overlay " ∷ decimal segment.overlay ∷ absolute segment.alignment ∷ [])

-- a name of a THEADR or an LNAMES
abbrev pub name_line : List ℕ → List ℕ
name_line name = line (codes "name " ∷ printed_name name ∷ [])

-- the name of a GRPDEF, by its index
abbrev pub group_line : ℕ → List ℕ
group_line name = line (codes "group " ∷ decimal name ∷ [])

-- a component of a group, by its segment's index
abbrev pub component_line : ℕ → List ℕ
component_line segment = line (codes "segment " ∷ decimal segment ∷ [])

-- the word before a name that is local to its module
abbrev pub scope : (local : Bool) → List ℕ
scope true = codes "local "
scope false = []

-- a name of an EXTDEF
abbrev pub external_line : (local : Bool) → External → List ℕ
external_line local external =
    line (scope local ∷ codes "external " ∷ printed_name external.name
    ∷ codes " type " ∷ decimal external.type_index ∷ [])

-- a public of a PUBDEF
abbrev pub public_line : (local : Bool) → Public → List ℕ
public_line local symbol = line (scope local ∷ codes "public " ∷ printed_name symbol.name
    ∷ codes " offset " ∷ hexadecimal 4 symbol.offset ∷ codes " type " ∷ decimal symbol.type_index ∷ [])

-- a line number of a LINNUM
abbrev pub number_line : Line → List ℕ
number_line entry = line (codes "line " ∷ decimal entry.number ∷ codes " offset " ∷ hexadecimal 4 entry.offset ∷ [])

-- self-relative or segment-relative
abbrev pub mode : Bool → List ℕ
mode true = codes "self"
mode false = codes "segment"

-- a subrecord of a FIXUPP: a thread that is set, or a fix-up
abbrev pub subrecord_line : Subrecord → List ℕ
subrecord_line (SetFrame thread method) =
    line (codes "thread frame " ∷ decimal (thread_number thread) ∷ codes " " ∷ frame_method method ∷ [])
subrecord_line (SetTarget thread method) =
    line (codes "thread target " ∷ decimal (thread_number thread) ∷ codes " " ∷ target_method method ∷ [])
subrecord_line (Fixup fixup) =
    line (codes "fixup at " ∷ hexadecimal 3 fixup.offset ∷ codes " " ∷ mode fixup.self_relative
    ∷ codes " location " ∷ decimal (location_number fixup.location) ∷ codes " " ∷ reference fixup.reference)

-- ---- records

-- two digits a byte, or a dash
abbrev pub comment_bytes : List ℕ → List ℕ
comment_bytes bytes = if length bytes == 0 then codes "-" else flat_map (hexadecimal 2) bytes

-- the base of publics or line numbers; `frame` stands behind it where the base is a paragraph
abbrev pub base_line : (group segment : ℕ) (frame : List (List ℕ)) → List ℕ
base_line group segment frame =
    line (codes "base group " ∷ decimal group ∷ codes " segment " ∷ decimal segment ∷ frame)

-- the base of publics
abbrev pub public_base : PublicBase → List ℕ
public_base (AtFrame group frame) = base_line group 0 (codes " frame " ∷ hexadecimal 4 frame ∷ [])
public_base (InSegment group segment) = base_line group segment []

-- the length of what repeated data stands for
abbrev pub expanded : ℕ → List ℕ
expanded count = if nat_lt 65536 count then codes ">65536" else decimal count

-- the lines of a record
unfoldable pub details : Record → List ℕ
details (Theadr name) = name_line name
details (Coment kind class bytes) =
    line (codes "comment " ∷ hexadecimal 2 kind ∷ codes " " ∷ hexadecimal 2 class
    ∷ codes " " ∷ comment_bytes bytes ∷ [])
details (Lnames names) = flat_map name_line names
details (Segdef segment) = segment_line segment
details (Grpdef name segments) = group_line name ++ flat_map component_line segments
details (Extdef local names) = flat_map (external_line local) names
details (Pubdef local base publics) = public_base base ++ flat_map (public_line local) publics
details (Linnum group segment lines) = base_line group segment [] ++ flat_map number_line lines
details (Ledata segment offset bytes) =
    line (codes "data segment " ∷ decimal segment ∷ codes " offset " ∷ hexadecimal 4 offset
    ∷ codes " bytes " ∷ decimal (length bytes) ∷ [])
details (Lidata segment offset blocks) =
    line (codes "data segment " ∷ decimal segment ∷ codes " offset " ∷ hexadecimal 4 offset
    ∷ codes " blocks " ∷ decimal (length blocks) ∷ codes " expanded " ∷ expanded (length (expansion blocks)) ∷ [])
details (Fixupp subrecords) = flat_map subrecord_line subrecords
details (Modend main None) = line (codes "main " ∷ decimal (bit main) ∷ codes " start 0" ∷ [])
details (Modend main (Some start)) = line (codes "main " ∷ decimal (bit main) ∷ codes " start 1 " ∷ reference start)

-- a record's head line, and its lines
abbrev pub listing : Placed → List ℕ
listing placed = head_line placed.place (kind_of placed.says) (length placed.body) ++ details placed.says
