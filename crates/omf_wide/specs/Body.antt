-- The bodies of records whose numbers have two bytes, in the types of 16 bits, or four, in those of 32; and of the
-- types that say the same as another. A bit that no fact below speaks of isn't looked at.
-- Beside each record stands its section of TIS OMF 1.1.
use Rattle.std.specs.Prelude.{◌≡◌, ℕ, ◌+◌, ◌-◌, ◌*◌, ◌/◌, ◌%◌, ◌<◌, Bool, true, if◌then◌else◌, List, is_none}
use Rattle.std.specs.Prelude.{Some, None}
use Rattle.std.specs.List.{AllByRecursion}
use Rattle.omf_codec.specs.Language.{◌⋆◌, each, optional, One, Byte, Word, Index, Name, Bytes, Little, width_of}
use Rattle.omf_record.specs.Body as narrow
use Rattle.omf_record.specs.Body.{bits, AbsoluteText, BaseText, DatumBits, DatumText, SubrecordText}
use Rattle.omf_record.specs.Numbers.{bit, frame_code, target_code, alignment_number, combination_number}
use Rattle.omf_record.specs.Record.{Record, Public, Theadr, Extdef, Pubdef, Linnum, Lnames, Ledata}
use Rattle.omf_record.specs.declared.externals.Line.{Line}
use Rattle.omf_record.specs.declared.fixups.Subrecord.TheVariants as sub
use Rattle.omf_wide.specs.declared.externals.ListedExternal.{ListedExternal}
use Rattle.omf_wide.specs.declared.fixups.WideReference.{WideReference}
use Rattle.omf_wide.specs.declared.fixups.WideSubrecord.{WideSubrecord}
use Rattle.omf_wide.specs.declared.fixups.WideSubrecord.TheVariants as wide
use Rattle.omf_wide.specs.declared.segments.WideSegment.{WideSegment}
use Rattle.omf_wide.specs.Numbers.{location_number}
use Rattle.omf_wide.specs.Said.{Said, Plain, Fixupp, Modend, Cextdef, Segdef}

-- ---- subrecords of FIXUPP

-- the fix data byte, with F and the frame, T and the target, and P; then the frame, the target, and the displacement
-- where there is one
abbrev pub ReferenceAt : (width : ℕ) → WideReference → List ℕ → Type 0
ReferenceAt width r =
    One (λ b. DatumBits frame_code 7 6 4 r.frame b × DatumBits target_code 3 1 0 r.target b
    × (bits 2 2 b ≡ bit (is_none r.displacement)))
    ⋆ DatumText frame_code r.frame ⋆ DatumText target_code r.target ⋆ optional (Little width) r.displacement

-- a thread, as in a FIXUPP of 16 bits; or a fix-up
abbrev pub SubrecordAt : (width : ℕ) → WideSubrecord → List ℕ → Type 0
SubrecordAt width (wide.SetFrame n m) = SubrecordText (sub.SetFrame n m)
SubrecordAt width (wide.SetTarget n m) = SubrecordText (sub.SetTarget n m)
SubrecordAt width (wide.Fixup f) =
    One (λ b. (bits 7 7 b ≡ 1) × (bits 6 6 b ≡ 1 - bit f.self_relative)
    × (bits 5 2 b ≡ location_number f.location) × (bits 1 0 b ≡ f.offset / 256))
    ⋆ Byte (f.offset % 256) ⋆ ReferenceAt width f.reference

-- ---- fields of SEGDEF

-- the byte A, C, B, P
abbrev pub Acbp : WideSegment → ℕ → Type 0
Acbp s b =
    (bits 7 5 b ≡ alignment_number s.alignment) × (bits 4 2 b ≡ combination_number s.combination)
    × (bits 1 1 b ≡ bit s.big) × (bits 0 0 b ≡ bit s.use32)

-- the byte A, C, B, P, the frame and offset of an absolute one, the length, three names
abbrev pub SegmentAt : (width : ℕ) → WideSegment → List ℕ → Type 0
SegmentAt width s =
    One (Acbp s) ⋆ AbsoluteText s.alignment ⋆ Little width s.length ⋆ Index s.name ⋆ Index s.class ⋆ Index s.overlay

-- ---- the names of CEXTDEF

-- an index of a name, and a type index
abbrev pub ListedText : ListedExternal → List ℕ → Type 0
ListedText e = Index e.name ⋆ Index e.type_index

-- ---- data

-- a segment, an offset, and bytes
abbrev pub DataText : (segment offset : ℕ) → List ℕ → List ℕ → Type 0
DataText segment offset bytes = Index segment ⋆ Little 4 offset ⋆ Bytes bytes

-- ---- bodies

-- the bodies that say what one of the fourteen does, the numbers of this width
abbrev pub RecordAt : (width : ℕ) → Record → List ℕ → Type 0
-- LHEADR: Library Module Header Record
RecordAt width (Theadr name) = narrow.Body (Theadr name)
-- LLNAMES: Local Logical Names Definition Record
RecordAt width (Lnames names) = narrow.Body (Lnames names)
-- LEXTDEF: Local External Names Definition Record
RecordAt width (Extdef true names) = narrow.Body (Extdef true names)
-- PUBDEF: Public Names Definition Record; LPUBDEF: Local Public Names Definition Record: each name with its offset and
-- its type index
RecordAt width (Pubdef local base publics) =
    BaseText base ⋆ each (λ (p : Public). Name p.name ⋆ Little width p.offset ⋆ Index p.type_index) publics
-- LINNUM: Line Numbers Record: each line number with the offset of its code
RecordAt width (Linnum group segment lines) =
    Index group ⋆ Index segment ⋆ each (λ (l : Line). Word l.number ⋆ Little width l.offset) lines
-- LEDATA: Logical Enumerated Data Record
RecordAt width (Ledata segment offset bytes) = Index segment ⋆ Little width offset ⋆ Bytes bytes
RecordAt width _ = λ text. ⊥

-- the type byte of what one of the fourteen says, too; 0 where there is none
abbrev pub plain_kind : Record → ℕ
plain_kind (Theadr name) = 0x82
plain_kind (Lnames names) = 0xCA
plain_kind (Extdef local names) = if local then 0xB5 else 0
plain_kind (Pubdef local base publics) = if local then 0xB7 else 0x91
plain_kind (Linnum group segment lines) = 0x95
plain_kind (Ledata segment offset bytes) = 0xA1
plain_kind _ = 0

-- of FIXUPP
abbrev pub fixupp_kind : Bool → ℕ
fixupp_kind wide = if wide then 0x9D else 0x9C

-- of SEGDEF
abbrev pub segdef_kind : Bool → ℕ
segdef_kind wide = if wide then 0x99 else 0x98

-- of MODEND
abbrev pub modend_kind : Bool → ℕ
modend_kind wide = if wide then 0x8B else 0x8A

-- the type byte
abbrev pub kind_of : Said → ℕ
kind_of (Plain r) = plain_kind r
kind_of (Fixupp wide subrecords) = fixupp_kind wide
kind_of (Modend wide main start) = modend_kind wide
kind_of (Cextdef names) = 0xBC
kind_of (Segdef wide segment) = segdef_kind wide

-- the bodies that say this
unfoldable pub Body : Said → List ℕ → Type 0
Body (Plain r) = RecordAt 4 r
-- FIXUPP: Fixup Record
Body (Fixupp wide subrecords) = each (SubrecordAt (width_of wide)) subrecords
-- MODEND: Module End Record, with no start and with one
Body (Modend wide main None) = One (λ b. bits 7 6 b ≡ 2 * bit main)
Body (Modend wide main (Some start)) =
    One (λ b. (bits 7 6 b ≡ 2 * bit main + 1) × (bits 0 0 b ≡ 1)) ⋆ ReferenceAt (width_of wide) start
-- CEXTDEF: COMDAT External Names Definition Record
Body (Cextdef names) = each ListedText names
-- SEGDEF: Segment Definition Record
Body (Segdef wide segment) = SegmentAt (width_of wide) segment

-- the body is one of this type, and says this
abbrev pub BodyOf : ℕ → Said → List ℕ → Type 0
BodyOf kind s body = (kind_of s ≡ kind) × Body s body

-- one of these types: some record of the type has a body
abbrev pub IsWideType : ℕ → Type 0
IsWideType kind = (s : Said) × (body : List ℕ) × BodyOf kind s body

-- ---- numbers that have to have 16 bits

-- the offsets of names, lines and data
abbrev pub RecordFits16Bits : Record → Type 0
RecordFits16Bits (Pubdef local base publics) = AllByRecursion (λ (p : Public). p.offset < 65536) publics
RecordFits16Bits (Linnum group segment lines) = AllByRecursion (λ (l : Line). l.offset < 65536) lines
RecordFits16Bits (Ledata segment offset bytes) = offset < 65536
RecordFits16Bits _ = Unit {0}

-- the displacement of a fix-up or a start may have more
abbrev pub Fits16Bits : Said → Type 0
Fits16Bits (Plain r) = RecordFits16Bits r
Fits16Bits _ = Unit {0}

-- the body is one of this type, says this, and the numbers have 16 bits
abbrev pub NarrowBodyOf : ℕ → Said → List ℕ → Type 0
NarrowBodyOf kind s body = Fits16Bits s × BodyOf kind s body
