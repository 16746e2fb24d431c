use Rattle.std.proofs.Common.{◌≡◌}
use Rattle.std.specs.List.{flat_map, range_with_len}
use Rattle.omf_match.specs.Matching.{segment_stands}
use Rattle.omf_match.proofs.finding.stands.Given as goal

abbrev pub invariant-loop-segment : goal.invariant-loop-segment
invariant-loop-segment g l =
    l.found.items ≡ flat_map (segment_stands l.fn.from l.fn.image) (range_with_len 0 l.segment)
