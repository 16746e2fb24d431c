use Rattle.std.proofs.Common.{◌≡◌, drop}
use Rattle.omf_module.specs.inside.Running.{step_subrecords}
use Rattle.omf_module.specs.inside.Building.{state}
use Rattle.omf_module.proofs.builder.ModuleBuilder.add_subrecords.Given as goal

abbrev pub invariant-loop-subrecord : goal.invariant-loop-subrecord
invariant-loop-subrecord g l =
    step_subrecords l.place (state l.self) (drop l.subrecord-index l.subrecords)
    ≡ step_subrecords l.place (state l.fn.self) l.subrecords
