-- The numbers by which fields are written (TIS OMF 1.1, "COMDAT: Initialized Communal Data Record", "BAKPAT: Backpatch
-- Record" and "NBKPAT: Named Backpatch Record").
use Rattle.std.specs.Prelude.{ℕ, ◌+◌, ◌*◌}
use Rattle.omf_record.specs.Numbers.{bit}
use Rattle.omf_extended.specs.declared.comdats.Comdat.{Comdat}
use Rattle.omf_extended.specs.declared.comdats.ComdatAlignment.{ComdatAlignment}
use Rattle.omf_extended.specs.declared.comdats.ComdatAlignment.TheVariants as align
use Rattle.omf_extended.specs.declared.comdats.ComdatAllocation.{ComdatAllocation}
use Rattle.omf_extended.specs.declared.comdats.ComdatAllocation.TheVariants as alloc
use Rattle.omf_extended.specs.declared.comdats.ComdatSelection.{ComdatSelection}
use Rattle.omf_extended.specs.declared.comdats.ComdatSelection.TheVariants as select
use Rattle.omf_extended.specs.declared.patches.PatchLocation.{PatchLocation}
use Rattle.omf_extended.specs.declared.patches.PatchLocation.TheVariants as location

-- ---- COMDAT

-- the flags: bits 0 to 3
abbrev pub flags_number : Comdat → ℕ
flags_number c = bit c.continuation + 2 * bit c.iterated + 4 * bit c.local + 8 * bit c.in_code

-- the high four bits of the attributes
abbrev pub selection_number : ComdatSelection → ℕ
selection_number select.NoMatch = 0
selection_number select.PickAny = 1
selection_number select.SameSize = 2
selection_number select.ExactMatch = 3

-- the low four bits of the attributes
abbrev pub allocation_number : ComdatAllocation → ℕ
allocation_number (alloc.Explicit base) = 0
allocation_number alloc.FarCode = 1
allocation_number alloc.FarData = 2
allocation_number alloc.Code32 = 3
allocation_number alloc.Data32 = 4

-- the alignment
abbrev pub comdat_alignment_number : ComdatAlignment → ℕ
comdat_alignment_number align.OfSegment = 0
comdat_alignment_number align.Byte = 1
comdat_alignment_number align.Word = 2
comdat_alignment_number align.Paragraph = 3
comdat_alignment_number align.Page = 4
comdat_alignment_number align.DoubleWord = 5

-- ---- BAKPAT and NBKPAT

-- the location type
abbrev pub patch_location_number : PatchLocation → ℕ
patch_location_number location.Byte = 0
patch_location_number location.Word = 1
patch_location_number location.DoubleWord = 2
