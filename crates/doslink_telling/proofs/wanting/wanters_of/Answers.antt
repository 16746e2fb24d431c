use Rattle.std.proofs.Common.{◌∙◌, ap, arith, map}
use Rattle.std.proofs.lemmas.List.{take_all}
use Rattle.doslink_stock.specs.Seen.{entry_held, handed_held}
use Rattle.doslink_stock.proofs.Walks.{map-step}
use Rattle.doslink_telling.specs.inside.Wanters.{wanter_held}
use Rattle.doslink_telling.proofs.wanting.wanters_of.Goals as goal

pub loop-each-init : goal.loop-each-init
loop-each-init g c = ap (map wanter_held) c.new-wanters.ensures.items

pub loop-each-preserved : goal.loop-each-preserved
loop-each-preserved g c =
    map-step wanter_held handed_held c.args.handed.now c.loop-each.each-index c.each-item.result
    c.loop-each.wanters.items _ _ c.loop-each-test.true c.in_ok-push.ensures.items
    (ap entry_held c.in_ok-wanter.ensures ∙ ap handed_held c.each-item.is) c.loop-each.invariant

pub returns : goal.returns
returns g c =
    c.loop-each.invariant
    ∙ ap (map handed_held) (take_all c.loop-each.each-index c.args.handed.now (omega arith))
