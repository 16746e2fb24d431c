use Rattle.std.proofs.Common.{◌≡◌, map, take}
use Rattle.omf_communal.specs.Deciding.{variable_said}
use Rattle.omf_communal.specs.Far.{far_names}
use Rattle.omf_communal.specs.Modules.{bytes_of}
use Rattle.omf_communal.proofs.far.far_names.Given as goal

abbrev pub invariant-loop-variable : goal.invariant-loop-variable
invariant-loop-variable g l =
    bytes_of l.names.items ≡ far_names (map variable_said (take l.variable-index l.variables))
