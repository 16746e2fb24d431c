use Rattle.std.proofs.Common.{arith}
use Rattle.omf_codec.proofs.Missing.{IsBytes-from, bytes_written}
use Rattle.omf_codec.proofs.primitives.put_bytes.Goals as goal

pub returns : goal.returns
returns g c =
    bytes_written g.O.Output.Takes g.O.Output.Refuses c.args.bytes.now
    (IsBytes-from c.args.bytes.now (λ i. omega (arith, c.type_inv.bytes i))) c.args.out.now c.write.new.self
    c.write.result c.write.ensures.ok c.write.ensures.err
