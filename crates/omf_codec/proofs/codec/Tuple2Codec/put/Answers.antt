use Rattle.omf_codec.proofs.Parts.{second_written}
use Rattle.omf_codec.proofs.codec.Tuple2Codec.put.Goals as goal

pub returns : goal.returns
returns g c =
    let n = c.args.number in
    second_written g.O.Output.Takes g.O.Output.Refuses g.met.O.Output.is_output (g.F.Codec.format n)
    (g.met.F.Codec.lawful n) _ _ _ c.args.out.now c.put.new.out c.put-2.new.out c.put-2.result c.in_ok-put.ensures
    c.put-2.ensures
