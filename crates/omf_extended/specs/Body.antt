-- The bodies of the records that came after Intel's: every way to spell what one says. Bits and numbers that the
-- standard leaves undefined stand in no body.
-- Beside each record stands its section of TIS OMF 1.1.
use Rattle.std.specs.Prelude.{◌≡◌, ℕ, zero, suc, ◌+◌, ◌*◌, ◌<◌, ◌==◌, Bool, true, false}
use Rattle.std.specs.Prelude.{if◌then◌else◌, IsTrue, List, [], ◌∷◌, length}
use Rattle.omf_codec.specs.Language.{◌⋆◌, Empty, Where, each, Byte, Word, Index, Name, Bytes, Little, width_of}
use Rattle.omf_record.specs.Body.{BaseText}
use Rattle.omf_record.specs.Numbers.{bit}
use Rattle.omf_record.specs.Record.{Block, Content, Nested, block_list}
use Rattle.omf_wide.specs.Communals.{Communal, CommunalText}
use Rattle.omf_wide.specs.declared.communals.Extent.{Extent}
use Rattle.omf_wide.specs.declared.communals.Extent.TheVariants as extent
use Rattle.omf_extended.specs.declared.comdats.Comdat as comdats
use Rattle.omf_extended.specs.declared.comdats.ComdatAllocation.{ComdatAllocation}
use Rattle.omf_extended.specs.declared.comdats.ComdatAllocation.TheVariants as alloc
use Rattle.omf_extended.specs.declared.patches.Patch.{Patch}
use Rattle.omf_extended.specs.declared.symbols.SymbolLine.{SymbolLine}
use Rattle.omf_extended.specs.Numbers.{flags_number, selection_number, allocation_number, comdat_alignment_number}
use Rattle.omf_extended.specs.Numbers.{patch_location_number}
use Rattle.omf_extended.specs.Said.{Extended, Standing, Comdef, Alias, Comdat, Linsym, Bakpat, Nbkpat, Lidata}
use Rattle.omf_extended.specs.Said.{Vernum, Vendext}

-- ---- the entries of COMDEF

-- the data type is neither 61H nor 62H
abbrev pub is_other : Extent → Bool
is_other (extent.Other data_type) = true
is_other _ = false

-- It isn't known what stands behind an entry of another data type than 61H and 62H, so that entry is the last, and the
-- bytes behind it are any. Behind others, no byte is unknown.
abbrev pub are_ended : List Communal → (unknown : List ℕ) → Bool
are_ended [] unknown = length unknown == 0
are_ended (c ∷ cs) unknown = if is_other c.extent then length cs == 0 else are_ended cs unknown

-- ---- fields

-- ALIAS: a name, and the one that it stands for
abbrev pub StandingText : Standing → List ℕ → Type 0
StandingText s = Name s.name ⋆ Name s.substitute

-- the group, the segment and the frame of a COMDAT that is put there, as those of PUBDEF; else none
abbrev pub AllocationText : ComdatAllocation → List ℕ → Type 0
AllocationText (alloc.Explicit base) = BaseText base
AllocationText _ = Empty

-- flags, attributes, alignment, the offset of the data, a type index, where it is put, and the index of the name
abbrev pub ComdatAt : (width : ℕ) → comdats.Comdat → List ℕ → Type 0
ComdatAt width c =
    Byte (flags_number c)
    ⋆ Byte (16 * selection_number c.selection + allocation_number c.allocation)
    ⋆ Byte (comdat_alignment_number c.alignment) ⋆ Little width c.offset ⋆ Index c.type_index
    ⋆ AllocationText c.allocation ⋆ Index c.name

-- LINSYM: a line number, and the offset of its code
abbrev pub LineAt : (width : ℕ) → SymbolLine → List ℕ → Type 0
LineAt width l = Word l.number ⋆ Little width l.offset

-- BAKPAT and NBKPAT: an offset, and a value
abbrev pub PatchAt : (width : ℕ) → Patch → List ℕ → Type 0
PatchAt width p = Little width p.offset ⋆ Little width p.value

-- ---- blocks of LIDATA

-- A block that may have blocks on so many levels below it: a repeat count of four bytes, how many blocks stand in it,
-- and those; where there are none, its content
abbrev pub WideBlockText : ℕ → Block → List ℕ → Type 0
WideBlockText below (Content repeat bytes) = Little 4 repeat ⋆ Word 0 ⋆ Name bytes
WideBlockText zero (Nested repeat blocks) = λ text. ⊥
WideBlockText (suc below) (Nested repeat blocks) =
    Little 4 repeat ⋆ Where (0 < length (block_list blocks)) (Word (length (block_list blocks)))
    ⋆ each (WideBlockText below) (block_list blocks)

-- bytes that are blocks to the end, which may have blocks on 63 levels below them
abbrev pub AreBlocks : List ℕ → Type 0
AreBlocks content = (blocks : List Block) × each (WideBlockText 63) blocks content

-- LIDATA, by its blocks: a segment, an offset, and these
abbrev pub RepeatedText : (segment offset : ℕ) → List Block → List ℕ → Type 0
RepeatedText segment offset blocks = Index segment ⋆ Little 4 offset ⋆ each (WideBlockText 63) blocks

-- ---- bodies

-- of COMDEF, and of LCOMDEF
abbrev pub comdef_kind : Bool → ℕ
comdef_kind local = if local then 0xB8 else 0xB0

-- of COMDAT
abbrev pub comdat_kind : Bool → ℕ
comdat_kind wide = if wide then 0xC3 else 0xC2

-- of LINSYM
abbrev pub linsym_kind : Bool → ℕ
linsym_kind wide = if wide then 0xC5 else 0xC4

-- of BAKPAT
abbrev pub bakpat_kind : Bool → ℕ
bakpat_kind wide = if wide then 0xB3 else 0xB2

-- of NBKPAT
abbrev pub nbkpat_kind : Bool → ℕ
nbkpat_kind wide = if wide then 0xC9 else 0xC8

-- the type byte
abbrev pub kind_of : Extended → ℕ
kind_of (Comdef local communals unknown) = comdef_kind local
kind_of (Alias aliases) = 0xC6
kind_of (Comdat wide comdat bytes) = comdat_kind wide
kind_of (Linsym wide continuation name lines) = linsym_kind wide
kind_of (Bakpat wide segment location patches) = bakpat_kind wide
kind_of (Nbkpat wide location name patches) = nbkpat_kind wide
kind_of (Lidata segment offset content) = 0xA3
kind_of (Vernum text) = 0xCC
kind_of (Vendext vendor bytes) = 0xCE

-- the bodies that say this
unfoldable pub Body : Extended → List ℕ → Type 0
-- COMDEF: Communal Names Definition Record; LCOMDEF: Local Communal Names Definition Record
Body (Comdef local communals unknown) =
    Where (IsTrue (are_ended communals unknown)) (each CommunalText communals ⋆ Bytes unknown)
-- ALIAS: Alias Definition Record
Body (Alias aliases) = each StandingText aliases
-- COMDAT: Initialized Communal Data Record
Body (Comdat wide comdat bytes) = ComdatAt (width_of wide) comdat ⋆ Bytes bytes
-- LINSYM: Symbol Line Numbers Record: a bit that says whether it goes on with those of the one before it
Body (Linsym wide continuation name lines) =
    Byte (bit continuation) ⋆ Index name ⋆ each (LineAt (width_of wide)) lines
-- BAKPAT: Backpatch Record
Body (Bakpat wide segment location patches) =
    Index segment ⋆ Byte (patch_location_number location) ⋆ each (PatchAt (width_of wide)) patches
-- NBKPAT: Named Backpatch Record
Body (Nbkpat wide location name patches) =
    Byte (patch_location_number location) ⋆ Index name ⋆ each (PatchAt (width_of wide)) patches
-- LIDATA: Logical Iterated Data Record
Body (Lidata segment offset content) = Index segment ⋆ Little 4 offset ⋆ Where (AreBlocks content) (Bytes content)
-- VERNUM: OMF Version Number Record
Body (Vernum text) = Bytes text
-- VENDEXT: Vendor-specific OMF Extension Record
Body (Vendext vendor bytes) = Word vendor ⋆ Bytes bytes

-- the body is one of this type, and says this
abbrev pub BodyOf : ℕ → Extended → List ℕ → Type 0
BodyOf kind s body = (kind_of s ≡ kind) × Body s body

-- one of these types: some record of the type has a body
abbrev pub IsExtendedType : ℕ → Type 0
IsExtendedType kind = (s : Extended) × (body : List ℕ) × BodyOf kind s body
