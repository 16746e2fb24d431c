use Rattle.omf_codec.proofs.Parts.{second_written}
use Rattle.omf_codec.proofs.choice.ThenCodec.put.Goals as goal

pub returns : goal.returns
returns g c =
    let n = c.args.number in
    let h = g.N.Codec.format n in
    let x = h.view c.args.item.now.0 in
    let f = g.F.Codec.format (h.number x) in
    let y = f.view c.args.item.now.1 in
    second_written g.O.Output.Takes g.O.Output.Refuses g.met.O.Output.is_output h (g.met.N.Codec.lawful n) x (f.Text y)
    (f.canonical y) c.args.out.now c.put.new.out c.put-2.new.out c.put-2.result c.in_ok-put.ensures
    (rw (c.number.ensures n) at c.put-2.ensures)
