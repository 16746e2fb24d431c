use Rattle.std.proofs.Common.{◌≡◌, ◌++◌, map, take}
use Rattle.omf_search.specs.Results.{bytes_of, offered_said}
use Rattle.omf_search.proofs.likeness.push_offered.Given as goal

abbrev pub invariant-loop-name : goal.invariant-loop-name
invariant-loop-name g l = map offered_said l.offered.items ≡
    map offered_said l.initial.offered.items
    ++ map (λ n. record { name = n; whose = l.whose }) (bytes_of (take l.name-index l.names))
