use Rattle.std.proofs.Common.{◌≡◌, ◌++◌, map, take}
use Rattle.omf_communal.specs.Far.{reached_at, reached_said}
use Rattle.omf_communal.specs.Modules.{bytes_of}
use Rattle.omf_communal.proofs.far.push_reached.Given as goal

abbrev pub invariant-loop-name : goal.invariant-loop-name
invariant-loop-name g l =
    map reached_said l.all.items ≡ map reached_said l.initial.all.items
    ++ map (reached_at l.fn.«module») (bytes_of (take l.name-index l.names))
