use Rattle.std.proofs.Common.{sym}
use Rattle.omf_library.proofs.Fronts.{bytes_front-cut}
use Rattle.omf_library.proofs.fields.take_bytes.Goals as goal

pub returns-then-bytes-count-clause-said : goal.returns-then-bytes-count-clause-said
returns-then-bytes-count-clause-said c = sym (bytes_front-cut c.args.count c.args.bytes.now c.if-bytes-count.true)
