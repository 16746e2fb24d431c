use Rattle.std.proofs.Common.{◌≡◌, ◌&&◌, None, map, take}
use Rattle.std.specs.Prelude.{find}
use Rattle.omf_module.specs.Seen.{segment_seen}
use Rattle.omf_stack.specs.Stack.{is_stack, same_class}
use Rattle.omf_stack.proofs.finding.first_of_class.Given as goal

abbrev pub invariant-loop-segment : goal.invariant-loop-segment
invariant-loop-segment l =
    find (λ t. is_stack t && same_class (segment_seen l.fn.opening) t)
    (map segment_seen (take l.segment-index l.segments)) ≡ None
