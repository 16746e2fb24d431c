use Rattle.std.proofs.Common.{◌++◌, ◌∙◌, ap, map, sym}
use Rattle.std.proofs.Math.ListN.{drop_of_length-le}
use Rattle.omf_order.specs.Keys.{selectors, selectors_from}
use Rattle.omf_order.specs.inside.Held.{name_view, selector_view}
use Rattle.omf_order.proofs.keys.selectors_of.Goals as goal

pub loop-item-init : goal.loop-item-init
loop-item-init g c = ap (λ all. map selector_view all ++ selectors c.args.items.now) c.new-all.ensures.items

pub returns : goal.returns
returns g c =
    c.in_ok-push_whole.ensures
    ∙ ap (λ items. map selector_view c.loop-item.all.items ++ selectors_from (name_view c.loop-item.current) items)
    (sym (drop_of_length-le c.args.items.now c.loop-item-test.false))
    ∙ c.loop-item.invariant
