use Rattle.std.proofs.Common.{◌≡◌, ◌++◌, map, take}
use Rattle.omf_module.specs.Seen.{segment_seen}
use Rattle.omf_stack.proofs.segments.push_segments.Given as goal

abbrev pub invariant-loop-index : goal.invariant-loop-index
invariant-loop-index g l =
    map segment_seen l.all.items ≡ map segment_seen l.initial.all.items ++ take l.index l.from.segments
