use Rattle.std.proofs.Common.{map, ap, ◌∙◌}
use Rattle.doslink_passes.specs.Orders.{item_said}
use Rattle.doslink_passes.specs.inside.Listed.{asking_said}
use Rattle.doslink_passes.proofs.OrderModules.{in-order, no-order}
use Rattle.doslink_passes.proofs.Refused.{OnInput-weaker}
use Rattle.doslink_passes.proofs.ordering.order_bytes.Goals as goal

pub order_asked-order-requires : goal.order_asked-order-requires
order_asked-order-requires g c = ap (map item_said) c.deref.ensures.value ∙ c.in_ok-items.ensures

pub returns-in-Ok-clause-order : goal.returns-in-Ok-clause-order
returns-in-Ok-clause-order g c =
    in-order (asking_said c.args.asked.now) c.args.modules.now c.order_asked-order.result c.order_asked-order.ensures
    c.in-Ok.made c.in-Ok.ensures

pub returns-clause-order : goal.returns-clause-order
returns-clause-order g c =
    OnInput-weaker c.stop_at_order.result
    (no-order g.row.A.Denot (asking_said c.args.asked.now) c.args.modules.now c.order_asked-order.result c.in-Err.fault
    c.order_asked-order.ensures c.in-Err.ensures)
    c.stop_at_order.ensures
