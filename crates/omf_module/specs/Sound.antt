-- What a module promises: every index means something, names are short, data lies in its segment, and fix-ups in their
-- data.
use Rattle.std.specs.Prelude.{◌≡◌, ℕ, ◌+◌, ◌<◌, ◌≤◌, true, false, All, List, length, Some, slice_get, IfSome}
use Rattle.omf_record.specs.Numbers.{location_width}
use Rattle.omf_record.specs.declared.externals.PublicBase.{PublicBase}
use Rattle.omf_record.specs.declared.externals.PublicBase.TheVariants.{AtFrame, InSegment}
use Rattle.omf_record.specs.declared.fixups.FrameMethod.{FrameMethod}
use Rattle.omf_record.specs.declared.fixups.FrameMethod.TheVariants as by
use Rattle.omf_record.specs.declared.fixups.TargetMethod.{TargetMethod}
use Rattle.omf_record.specs.declared.fixups.TargetMethod.TheVariants as to
use Rattle.omf_record.specs.Expansion.{places, StandTogether, StandWhole, AreCopies}
use Rattle.omf_module.specs.declared.Standing.{Standing}
use Rattle.omf_module.specs.declared.Standing.TheVariants.{Absolute, Relocatable}
use Rattle.omf_module.specs.declared.ResolvedFixup.{ResolvedFixup}
use Rattle.omf_module.specs.declared.Start.{Start}
use Rattle.omf_module.specs.Module.{Segment, Group, ExternalSymbol, PublicSymbol, DataRecord, Module}
use Rattle.omf_module.specs.Faults.{is_absolute, holds_base}

-- a name of the format has at most 255 bytes
abbrev pub IsShort : List ℕ → Type 0
IsShort name = length name ≤ 255

-- an absolute segment's frame word and offset byte; else an alignment of at most a page
abbrev pub IsStanding : Standing → Type 0
IsStanding (Absolute frame offset) = (frame < 65536) × (offset < 256)
IsStanding (Relocatable alignment kind) = (0 < alignment) × (alignment ≤ 256)

-- what a segment promises
pub record SegmentFits (segment : Segment) : Type 0 where
  pub name : IsShort segment.name
  pub class : IsShort segment.class
  pub length : segment.length ≤ 65536
  pub standing : IsStanding segment.standing

-- an index, from 1, means one of a list
abbrev pub IsIndexOf : {A : Type 0} → List A → ℕ → Type 0
IsIndexOf list index = (0 < index) × (index ≤ length list)

-- the segments, groups and externals that indexes may mean
module _ (segments : List Segment) (groups : List Group) (externals : List ExternalSymbol) where
  -- the target that a fix-up or a start names is one of them
  abbrev pub TargetMeans : TargetMethod → Type 0
  TargetMeans (to.Segment index) = IsIndexOf segments index
  TargetMeans (to.Group index) = IsIndexOf groups index
  TargetMeans (to.External index) = IsIndexOf externals index

  -- so is a frame
  abbrev pub FrameMeans : FrameMethod → Type 0
  FrameMeans (by.By method) = TargetMeans method
  FrameMeans by.Location = Unit {0}
  FrameMeans by.Target = Unit {0}

  -- so is what a public symbol's offset counts from, or it is a frame word
  abbrev pub BaseMeans : PublicBase → Type 0
  BaseMeans (AtFrame group frame) = (frame < 65536) × (group ≤ length groups)
  BaseMeans (InSegment group segment) = IsIndexOf segments segment × (group ≤ length groups)

  -- a segment that a linker places
  abbrev pub IsPart : ℕ → Segment → Type 0
  IsPart index segment = (slice_get segments index ≡ Some segment) × (is_absolute segment.standing ≡ false)

  -- a member of a group
  abbrev pub IsMember : ℕ → Type 0
  IsMember index = (segment : Segment) × IsPart index segment

  -- From each hit of a fix-up on, the bytes of its location were stored one after the other, and each byte that was
  -- stored at one of the places of its location stands in such a run of them; a base isn't relative to itself.
  pub record FixupFits (data' : DataRecord) (fixup : ResolvedFixup) : Type 0 where
    pub frame : FrameMeans fixup.frame
    pub target : TargetMeans fixup.target
    pub together : StandTogether fixup.offset (location_width fixup.location) (places data'.pairs)
    pub whole : StandWhole fixup.offset (location_width fixup.location) (places data'.pairs)
    pub relative : fixup.self_relative ≡ true → holds_base fixup.location ≡ false

  -- data lies in a segment that isn't absolute, and its bytes of one place are one byte
  pub record DataFits (data' : DataRecord) : Type 0 where
    pub segment : Segment
    pub is_part : IsPart data'.segment segment
    pub inside : data'.offset + length data'.pairs ≤ segment.length
    pub copies : AreCopies data'.pairs
    pub fixups : All (FixupFits data') data'.fixups

  -- what a part of a group promises
  pub record GroupFits (group : Group) : Type 0 where
    pub name : IsShort group.name
    pub members : All IsMember group.members

  -- what a public name promises
  pub record PublicFits (public_symbol : PublicSymbol) : Type 0 where
    pub name : IsShort public_symbol.name
    pub base : BaseMeans public_symbol.base
    pub offset : public_symbol.offset < 65536

  -- a start has no location
  pub record StartFits (start : Start) : Type 0 where
    pub frame : FrameMeans start.frame
    pub target : TargetMeans start.target
    pub no_location : start.frame ≡ by.Location → ⊥

-- the promises of a module
pub record IsSound (module' : Module) : Type 0 where
  pub segments : All SegmentFits module'.segments
  pub groups : All (GroupFits module'.segments module'.groups module'.externals) module'.groups
  pub externals : All (λ (e : ExternalSymbol). IsShort e.name) module'.externals
  pub publics : All (PublicFits module'.segments module'.groups module'.externals) module'.publics
  pub data_records : All (DataFits module'.segments module'.groups module'.externals) module'.data_records
  pub start : IfSome module'.start (StartFits module'.segments module'.groups module'.externals)
