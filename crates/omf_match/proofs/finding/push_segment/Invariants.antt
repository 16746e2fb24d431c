use Rattle.std.proofs.Common.{◌≡◌, ◌++◌, drop, map}
use Rattle.omf_match.specs.Matching.{stand}
use Rattle.omf_match.proofs.finding.push_segment.Given as goal

abbrev pub invariant-loop-place : goal.invariant-loop-place
invariant-loop-place g l =
    l.found.items ++ map (stand l.fn.segment) (drop l.place-index l.place-items)
    ≡ l.initial.found.items ++ map (stand l.fn.segment) l.place-items
