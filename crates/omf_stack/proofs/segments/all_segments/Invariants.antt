use Rattle.std.proofs.Common.{◌≡◌, map, take}
use Rattle.omf_module.specs.Seen.{segment_seen}
use Rattle.omf_stack.specs.Stack.{segments}
use Rattle.omf_stack.proofs.segments.all_segments.Given as goal

abbrev pub invariant-loop-each : goal.invariant-loop-each
invariant-loop-each g l = map segment_seen l.all.items ≡ segments (take l.each-index l.modules)
