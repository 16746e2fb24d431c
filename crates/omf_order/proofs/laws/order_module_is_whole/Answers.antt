use Rattle.omf_order.proofs.Naming.{whole}
use Rattle.omf_order.proofs.laws.order_module_is_whole.Goals as goal

pub returns : goal.returns
returns c = whole
