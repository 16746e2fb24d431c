use Rattle.std.proofs.Common.{◌≡◌, map, take}
use Rattle.omf_communal.specs.Modules.{module_said}
use Rattle.doslink_passes.specs.inside.Declaring.{declared_said}
use Rattle.doslink_passes.proofs.communals.declarings.Given as goal

abbrev pub invariant-loop-each : goal.invariant-loop-each
invariant-loop-each g l = map module_said l.all.items ≡ map declared_said (take l.each-index l.fn.declared)
