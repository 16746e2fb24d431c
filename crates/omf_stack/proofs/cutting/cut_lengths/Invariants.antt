use Rattle.std.proofs.Common.{◌≡◌, ◌-◌, take}
use Rattle.omf_module.specs.Seen.{segment_seen}
use Rattle.omf_stack.specs.Cut.{cut_lengths}
use Rattle.omf_stack.specs.Stack.{stack_length}
use Rattle.omf_stack.proofs.cutting.cut_lengths.Given as goal

abbrev pub invariant-loop-index : goal.invariant-loop-index
invariant-loop-index g l =
    (l.lengths.items ≡ cut_lengths (segment_seen l.stack) l.initial.left (take l.index l.from.segments))
    × (l.left ≡ l.initial.left - stack_length (segment_seen l.stack) (take l.index l.from.segments))
