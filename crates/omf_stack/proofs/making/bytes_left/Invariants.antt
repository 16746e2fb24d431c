use Rattle.std.proofs.Common.{◌≡◌, ◌+◌, map, take}
use Rattle.omf_module.specs.Seen.{segment_seen}
use Rattle.omf_stack.specs.Stack.{stack_length}
use Rattle.omf_stack.proofs.making.bytes_left.Given as goal

abbrev pub invariant-loop-segment : goal.invariant-loop-segment
invariant-loop-segment l =
    l.left + stack_length (segment_seen l.stack) (map segment_seen (take l.segment-index l.segments)) ≡ l.fn.asked
