use Rattle.doslink_passes.proofs.OrderModules.{order-weaker}
use Rattle.doslink_passes.proofs.ordering.bytes_of_order.Goals as goal

pub returns-clause-order : goal.returns-clause-order
returns-clause-order g c =
    order-weaker c.order_bytes.result _ _ _ _ c.asked_by-asked.ensures c.deref-2.ensures.value
    c.order_bytes.ensures.order
