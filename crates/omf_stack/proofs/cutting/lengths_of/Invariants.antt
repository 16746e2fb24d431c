use Rattle.std.proofs.Common.{◌≡◌, ◌-◌, take}
use Rattle.omf_module.specs.Seen.{segment_seen}
use Rattle.omf_stack.specs.Stack.{segments, stack_length}
use Rattle.omf_stack.specs.inside.Cutting.{lists}
use Rattle.omf_stack.specs.inside.Cutting as told
use Rattle.omf_stack.proofs.cutting.lengths_of.Given as goal

abbrev pub invariant-loop-from : goal.invariant-loop-from
invariant-loop-from g l = record {
  lengths : lists l.all.items ≡ told.lengths_of (segment_seen l.stack) l.fn.asked (take l.from-index l.modules);
  left : l.left ≡ l.fn.asked - stack_length (segment_seen l.stack) (segments (take l.from-index l.modules));
}
