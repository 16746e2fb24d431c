use Rattle.std.proofs.Common.{◌≡◌, ◌++◌, map, take}
use Rattle.omf_search.specs.Results.{bytes_of, wanted_said}
use Rattle.omf_search.proofs.meeting.push_wanted.Given as goal

abbrev pub invariant-loop-name : goal.invariant-loop-name
invariant-loop-name g l = map wanted_said l.wanted.items ≡
    map wanted_said l.initial.wanted.items
    ++ map (λ n. record { name = n; wanted_by = l.index }) (bytes_of (take l.name-index l.names))
