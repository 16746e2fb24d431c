use Rattle.std.proofs.Common.{◌≡◌, ◌++◌, map, take}
use Rattle.std.specs.List.{enumerate_from}
use Rattle.omf_communal.specs.Modules.{declared_at}
use Rattle.omf_communal.specs.Reading.{plain_communal}
use Rattle.omf_communal.specs.inside.Met.{declared_said}
use Rattle.omf_communal.proofs.modules.push_declared.Given as goal

abbrev pub invariant-loop-communal : goal.invariant-loop-communal
invariant-loop-communal g l = map declared_said l.declared.items ≡
    map declared_said l.initial.declared.items
    ++ map (declared_at l.index) (enumerate_from 0 (map plain_communal (take l.communal l.communals)))
