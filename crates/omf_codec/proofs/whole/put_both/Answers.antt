use Rattle.omf_codec.proofs.Parts.{second_written}
use Rattle.omf_codec.proofs.whole.put_both.Goals as goal

pub returns : goal.returns
returns g c =
    let f = g.F.Codec.format 0 in
    let h = g.G.Codec.format 0 in
    second_written g.O.Output.Takes g.O.Output.Refuses g.met.O.Output.is_output f (g.met.F.Codec.lawful 0)
    (f.view c.args.first.now) (h.Text (h.view c.args.second.now)) (h.canonical (h.view c.args.second.now))
    c.args.out.now c.put.new.out c.put-2.new.out c.put-2.result c.in_ok-put.ensures c.put-2.ensures
