use Rattle.std.proofs.Common.{arith}
use Rattle.omf_record.specs.View.{view}
use Rattle.omf_write.proofs.Bodies.{IsBytes-from, header_fits}
use Rattle.omf_write.proofs.records.put_header.Goals as goal

pub put_record-requires-clause-fits : goal.put_record-requires-clause-fits
unfolding view
put_record-requires-clause-fits g c =
    header_fits c.args.name.now (c.requires, IsBytes-from c.args.name.now (λ i. omega (arith, c.type_inv.name i)))
