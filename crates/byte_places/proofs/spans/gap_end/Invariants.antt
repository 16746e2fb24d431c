use Rattle.std.proofs.Common.{◌≡◌, ◌+◌, ◌-◌, ◌≤◌, drop, not, length}
use Rattle.std.specs.List.{prefix_len}
use Rattle.byte_places.specs.Gaps.{gap_end}
use Rattle.byte_places.proofs.spans.gap_end.Given as goal

abbrev pub invariant-loop-end : goal.invariant-loop-end
invariant-loop-end l = record {
  within : l.end ≤ length l.fn.flags;
  same : l.end + prefix_len not (drop l.end l.fn.flags) ≡ gap_end l.fn.flags l.fn.start;
}

abbrev pub decreases-loop-end : goal.decreases-loop-end
decreases-loop-end l = length l.fn.flags - l.end
