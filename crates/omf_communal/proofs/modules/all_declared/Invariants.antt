use Rattle.std.proofs.Common.{◌≡◌, map, take}
use Rattle.omf_communal.specs.Modules.{all_declared, module_said}
use Rattle.omf_communal.specs.inside.Met.{declared_said}
use Rattle.omf_communal.proofs.modules.all_declared.Given as goal

abbrev pub invariant-loop-index : goal.invariant-loop-index
invariant-loop-index g l = map declared_said l.declared.items ≡ all_declared (map module_said (take l.index l.modules))
