use Rattle.std.proofs.Common.{◌≡◌, ◌++◌, map, drop}
use Rattle.omf_order.specs.Keys.{selectors, selectors_from}
use Rattle.omf_order.specs.inside.Held.{name_view, selector_view}
use Rattle.omf_order.proofs.keys.selectors_of.Given as goal

abbrev pub invariant-loop-item : goal.invariant-loop-item
invariant-loop-item g l =
    map selector_view l.all.items ++ selectors_from (name_view l.current) (drop l.item-index l.items)
    ≡ selectors l.items
