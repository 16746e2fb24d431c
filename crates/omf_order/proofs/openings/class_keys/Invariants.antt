use Rattle.std.proofs.Common.{◌≡◌, map, take}
use Rattle.omf_module.specs.declared.lookups.Segment.{Segment}
use Rattle.omf_order.proofs.openings.class_keys.Given as goal

abbrev pub invariant-loop-segment : goal.invariant-loop-segment
invariant-loop-segment g l = l.keys.items ≡ map (λ (s : Segment). s.class) (take l.segment-index l.segments)
