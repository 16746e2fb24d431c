use Rattle.std.proofs.Common.{◌≡◌, map, take}
use Rattle.omf_order.specs.inside.Held.{combining}
use Rattle.omf_order.proofs.openings.combined_keys.Given as goal

abbrev pub invariant-loop-segment : goal.invariant-loop-segment
invariant-loop-segment g l = l.keys.items ≡ map combining (take l.segment-index l.segments)
