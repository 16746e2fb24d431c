use Rattle.std.proofs.Common.{◌≡◌, map}
use Rattle.byte_places.specs.Gaps.{begins_gap, gap_at}
use Rattle.byte_places.proofs.Listing.{below}
use Rattle.byte_places.proofs.spans.gaps.Given as goal

abbrev pub invariant-loop-start : goal.invariant-loop-start
invariant-loop-start g l =
    l.found.items ≡ map (gap_at l.flags.items) (below (begins_gap l.flags.items) l.start)
