use Rattle.std.proofs.Common.{arith}
use Rattle.omf_codec.proofs.Missing.{IsBytes-from, name_written}
use Rattle.omf_codec.proofs.primitives.put_name.Goals as goal

pub returns : goal.returns
returns g c =
    let s = c.args.name.now in
    name_written g.O.Output.Takes g.O.Output.Refuses s (IsBytes-from s (λ i. omega (arith, c.type_inv.name i)))
    g.met.O.Output.is_output (omega (arith, c.if-name-gt255.false)) c.args.out.now c.write.new.self c.put_bytes.new.out
    c.put_bytes.result c.in_ok-write.ensures.ok c.put_bytes.ensures
