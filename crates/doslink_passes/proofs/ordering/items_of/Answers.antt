use Rattle.std.proofs.Common.{rules, ◌≡◌, ◌<◌, ◌++◌, ◌∷◌, [], length, map, ap, ◌∙◌, arith}
use Rattle.std.proofs.lemmas.List.{take_all}
use Rattle.doslink_passes.proofs.Lists.{map-step}
use Rattle.doslink_words.specs.Said.{item_of}
use Rattle.doslink_passes.specs.Orders.{item_said}
use Rattle.doslink_passes.proofs.ordering.items_of.Goals as goal

pub loop-each-init : goal.loop-each-init
loop-each-init g c = ap (map item_said) c.new-items.ensures.items

pub loop-each-preserved : goal.loop-each-preserved
loop-each-preserved g c =
    let here : c.loop-each.each-index < length c.args.list.now = search rules in
    let pushed : c.push.new.self.items ≡ c.loop-each.items.items ++ c.item_of-item.result ∷ [] = search rules in
    map-step item_said item_of c.args.list.now c.loop-each.each-index _ c.loop-each.items.items _ c.item_of-item.result
    here pushed c.item_of-item.ensures c.loop-each.invariant

pub returns : goal.returns
returns g c =
    c.loop-each.invariant ∙ ap (map item_of) (take_all c.loop-each.each-index c.args.list.now (omega arith))
