-- The fault of what the look-up of a reference lacks.
use Rattle.omf_image.specs.declared.faults.FixKind.{FixKind}
use Rattle.omf_image.specs.declared.faults.FixKind.TheVariants.{Unresolved, EmptyGroup}
use Rattle.omf_image.specs.declared.reference.Missing.{Missing}
use Rattle.omf_image.specs.declared.reference.Missing.TheVariants.{Public, Members}

-- an external that means no public, or a group without members
abbrev pub missing_fault : Missing → FixKind
missing_fault Public = Unresolved
missing_fault Members = EmptyGroup
