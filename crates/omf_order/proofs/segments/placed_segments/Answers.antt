use Rattle.std.proofs.Common.{◌∙◌, ap, arith}
use Rattle.std.proofs.lemmas.List.{take_all}
use Rattle.omf_order.specs.Segments.{placed, placed_in}
use Rattle.omf_order.specs.inside.Held.{segments_view}
use Rattle.omf_order.proofs.Lists.{flat_turn}
use Rattle.omf_order.proofs.segments.placed_segments.Goals as goal

pub loop-each-preserved : goal.loop-each-preserved
loop-each-preserved g c =
    flat_turn placed_in c.args.modules.now c.loop-each.each-index c.each-item.result
    (segments_view c.loop-each.placed.items) _ c.loop-each-test.true c.each-item.is c.in_ok-push_placed.ensures
    c.loop-each.invariant

pub loop-each-init : goal.loop-each-init
loop-each-init g c = ap segments_view c.new-placed.ensures.items

pub returns : goal.returns
returns g c = c.loop-each.invariant ∙ ap placed (take_all c.loop-each.each-index c.args.modules.now (omega arith))
