use Rattle.std.proofs.Common.{◌∙◌, ap, arith}
use Rattle.std.proofs.lemmas.List.{take_all}
use Rattle.omf_order.specs.Segments.{grouped, grouped_in}
use Rattle.omf_order.specs.inside.Held.{segments_view}
use Rattle.omf_order.proofs.Lists.{flat_turn}
use Rattle.omf_order.proofs.segments.grouped_segments.Goals as goal

pub loop-each-preserved : goal.loop-each-preserved
loop-each-preserved g c =
    flat_turn grouped_in c.args.modules.now c.loop-each.each-index c.each-item.result
    (segments_view c.loop-each.grouped.items) _ c.loop-each-test.true c.each-item.is c.in_ok-push_grouped.ensures
    c.loop-each.invariant

pub loop-each-init : goal.loop-each-init
loop-each-init g c = ap segments_view c.new-grouped.ensures.items

pub returns : goal.returns
returns g c = c.loop-each.invariant ∙ ap grouped (take_all c.loop-each.each-index c.args.modules.now (omega arith))
