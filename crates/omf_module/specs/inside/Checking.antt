-- The checks as the code makes them, part by part.
use Rattle.std.specs.Prelude.{ℕ, ◌==◌, ◌||◌, Bool, true, false, if◌then◌else◌, nat_le, List, [], ◌∷◌, map, unwrap_or}
use Rattle.std.specs.Bool.{then_some}
use Rattle.std.specs.declared.option.Option.{Option}
use Rattle.std.specs.declared.option.Option.TheVariants.{Some, None}
use Rattle.omf_record.specs.Record.{Record, Theadr}
use Rattle.omf_record.specs.declared.segments.SegmentDefinition.{SegmentDefinition}
use Rattle.omf_record.specs.Numbers.{thread_number}
use Rattle.omf_record.specs.Records.{Placed}
use Rattle.omf_record.specs.declared.fixups.FrameMethod.{FrameMethod}
use Rattle.omf_record.specs.declared.fixups.FrameMethod.TheVariants as by
use Rattle.omf_record.specs.declared.fixups.TargetMethod.{TargetMethod}
use Rattle.omf_record.specs.declared.fixups.TargetMethod.TheVariants as to
use Rattle.omf_record.specs.declared.fixups.Fixup.{Fixup}
use Rattle.omf_record.specs.declared.fixups.Reference.{Reference}
use Rattle.omf_record.specs.declared.fixups.Subrecord.{Subrecord}
use Rattle.omf_record.specs.declared.fixups.Subrecord.TheVariants as sub
use Rattle.omf_module.specs.declared.fault.CheckFault.{CheckFault}
use Rattle.omf_module.specs.declared.fault.CheckFault.TheVariants.{NotHeader, NameIndex, SegmentIndex, GroupIndex}
use Rattle.omf_module.specs.declared.fault.CheckFault.TheVariants.{ExternalIndex, ThreadNotSet, SelfRelativeBase}
use Rattle.omf_module.specs.declared.fault.CheckFault.TheVariants.{FrameOfLocation}
use Rattle.omf_module.specs.declared.ResolvedFixup.{ResolvedFixup}
use Rattle.omf_module.specs.declared.Start.{Start}
use Rattle.omf_module.specs.Module.{Segment, Group, ExternalSymbol, Module}
use Rattle.omf_module.specs.Labels.{check_label}
use Rattle.omf_module.specs.Before.{entry}
use Rattle.omf_module.specs.Tables.{names}
use Rattle.omf_module.specs.inside.Said.{segments, groups, externals}
use Rattle.omf_module.specs.Faults.{component_fault, is_beyond, misses, place_fault, holds_base}

-- the tables as they stand before a record
pub record Tables : Type 0 where
  pub names : List (List ℕ)
  pub segments : List Segment
  pub groups : List Group
  pub externals : List ExternalSymbol

-- the tables of these records
abbrev pub tables : List Placed → Tables
tables before =
    record { names = names before; segments = segments before; groups = groups before; externals = externals before }

-- the fault, where the test holds
abbrev pub when : Bool → CheckFault → Option CheckFault
when test fault = then_some test fault

-- a segment's name and class may be 0
abbrev pub segment_fault : (names : List (List ℕ)) → SegmentDefinition → Option CheckFault
segment_fault names definition = when (is_beyond names definition.name || is_beyond names definition.class) NameIndex

-- its name and each of its components is an item
abbrev pub group_items : (names : List (List ℕ)) → List Segment → ℕ → List ℕ → List (Option CheckFault)
group_items names segments name components =
    when (misses names name) NameIndex ∷ map (λ index. component_fault (entry segments index)) components

-- some record has been read
abbrev pub begun : List Placed → Bool
begun [] = false
begun (_ ∷ before) = true

-- the first record has to be a header
abbrev pub opening_fault : Bool → Record → Option CheckFault
opening_fault true record' = None
opening_fault false (Theadr name) = None
opening_fault false _ = Some NotHeader

-- what a subrecord sets the frame thread of this number to
abbrev pub frame_set : ℕ → Subrecord → Option FrameMethod
frame_set number (sub.SetFrame thread method) = then_some (thread_number thread == number) method
frame_set number _ = None

-- what a subrecord sets the target thread of this number to
abbrev pub target_set : ℕ → Subrecord → Option TargetMethod
target_set number (sub.SetTarget thread method) = then_some (thread_number thread == number) method
target_set number _ = None

-- of two faults the one with the smaller number
infixr 6 ◌⊓◌
abbrev pub ◌⊓◌ : Option CheckFault → Option CheckFault → Option CheckFault
None ⊓ other = other
(Some one) ⊓ None = Some one
(Some one) ⊓ (Some other) = if nat_le (check_label one).0 (check_label other).0 then Some one else Some other

-- a target in use; none: its thread isn't set
abbrev pub target_fault : Module → Option TargetMethod → Option CheckFault
target_fault said None = Some ThreadNotSet
target_fault said (Some (to.Segment index)) = then_some (misses said.segments index) SegmentIndex
target_fault said (Some (to.Group index)) = then_some (misses said.groups index) GroupIndex
target_fault said (Some (to.External index)) = then_some (misses said.externals index) ExternalIndex

-- a frame in use, likewise
abbrev pub frame_fault : Module → Option FrameMethod → Option CheckFault
frame_fault said None = Some ThreadNotSet
frame_fault said (Some (by.By method)) = target_fault said (Some method)
frame_fault said (Some _) = None

-- a fix-up that is relative to its own location
abbrev pub relative_fault : Fixup → Option CheckFault
relative_fault fixup = if fixup.self_relative then then_some (holds_base fixup.location) SelfRelativeBase else None

-- a start has no location
abbrev pub location_fault : Option FrameMethod → Option CheckFault
location_fault (Some by.Location) = Some FrameOfLocation
location_fault _ = None

-- a fix-up by the methods that it uses: the smallest of its faults
abbrev pub fixup_fault : Module → Option FrameMethod → Option TargetMethod → Option (List (ℕ × ℕ)) → Fixup
    → Option CheckFault
fixup_fault said frame target contents fixup =
    frame_fault said frame ⊓ target_fault said target ⊓ place_fault contents fixup ⊓ relative_fault fixup

-- a start by the methods that it uses: the smallest of its faults
abbrev pub start_fault : Module → Option FrameMethod → Option TargetMethod → Option CheckFault
start_fault said frame target = frame_fault said frame ⊓ target_fault said target ⊓ location_fault frame

-- a fix-up by the methods that it uses; there is none where a thread isn't set
abbrev pub fixup_of : ℕ → Fixup → Option FrameMethod → Option TargetMethod → Option ResolvedFixup
fixup_of place fixup (Some frame) (Some target) = Some (record {
  place = place;
  self_relative = fixup.self_relative;
  location = fixup.location;
  offset = fixup.offset;
  frame = frame;
  target = target;
  displacement = unwrap_or fixup.reference.displacement 0;
})
fixup_of place fixup _ _ = None

-- a start by the methods that it uses; there is none where a thread isn't set
abbrev pub start_of : ℕ → Reference → Option FrameMethod → Option TargetMethod → Option Start
start_of place r (Some f) (Some t) =
    Some (record { place = place; frame = f; target = t; displacement = unwrap_or r.displacement 0 })
start_of place reference _ _ = None
