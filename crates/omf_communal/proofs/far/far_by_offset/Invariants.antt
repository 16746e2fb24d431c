use Rattle.std.proofs.Common.{◌≡◌, map, take}
use Rattle.std.specs.List.{enumerate_from, flat_map}
use Rattle.omf_communal.specs.Deciding.{variable_said}
use Rattle.omf_communal.specs.Far.{far_names, reached_in, reached_said}
use Rattle.omf_communal.proofs.far.far_by_offset.Given as goal

abbrev pub invariant-loop-index : goal.invariant-loop-index
invariant-loop-index g l =
    map reached_said l.all.items
    ≡ flat_map (reached_in l.fn.names (far_names (map variable_said l.fn.variables)))
    (enumerate_from 0 (take l.index l.modules))
