use Rattle.doslink_link.proofs.Beginning.{is-reading}
use Rattle.doslink_link.proofs.reading.read_one.Goals as goal

pub returns : goal.returns
returns g c =
    is-reading c.args.bytes.now _ c.read_module.result c.read_module.ensures.reads c.read_module.ensures.device
