use Rattle.omf_codec.proofs.Parts.{made_written}
use Rattle.omf_codec.proofs.codec.OfCodec.put.Goals as goal

pub returns : goal.returns
returns g c =
    let n = c.args.number in
    made_written g.O.Output.Takes g.O.Output.Refuses g.met.O.Output.is_output (g.P.Codec.format n) (g.T.Made.format n)
    c.parts.result c.args.item.now c.args.out.now c.put.new.out c.put.result (c.parts.ensures n) c.put.ensures
