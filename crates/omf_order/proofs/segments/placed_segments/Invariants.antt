use Rattle.std.proofs.Common.{◌≡◌, take}
use Rattle.omf_order.specs.Segments.{placed}
use Rattle.omf_order.specs.inside.Held.{segments_view}
use Rattle.omf_order.proofs.segments.placed_segments.Given as goal

abbrev pub invariant-loop-each : goal.invariant-loop-each
invariant-loop-each g l = segments_view l.placed.items ≡ placed (take l.each-index l.modules)
