-- What a fault says, where it isn't the want of memory.
use Rattle.std.specs.Prelude.{Option, Some, None}
use Rattle.omf_place.specs.declared.faults.PlaceFault.{PlaceFault}
use Rattle.omf_place.specs.declared.faults.PlaceFault.TheVariants as held
use Rattle.omf_place.specs.Faults.{PlacementFault, SegmentTooLong, ProgramTooLarge, GroupTooLong, DuplicatePublic}

-- the fault, if it is one of placement
abbrev pub said : {A : Type 0} → PlaceFault A → Option PlacementFault
said held.Memory = None
said (held.SegmentTooLong name) = Some (SegmentTooLong name.items)
said held.ProgramTooLarge = Some ProgramTooLarge
said (held.GroupTooLong name) = Some (GroupTooLong name.items)
said (held.DuplicatePublic name) = Some (DuplicatePublic name.items)
