use Rattle.std.proofs.Common.{◌≡◌, Err, rules, arith}
use Rattle.omf_codec.proofs.Lists.{left_more, left_fails, left_done}
use Rattle.omf_codec.proofs.whole.ToEndCodec.put.Goals as goal

pub returns-in_err-put : goal.returns-in_err-put
returns-in_err-put g c =
    let n = c.args.number in
    let is : c.from_residual.result ≡ Err c.in_err-put.field-0.0 = search rules in
    rw is
    (left_fails g.O.Output.Takes g.O.Output.Refuses g.met.O.Output.is_output (g.F.Codec.format n)
    (g.met.F.Codec.lawful n) c.args.items.now.items c.args.out.now c.loop-item.out c.put.new.out c.loop-item.item-index
    c.item-item.result c.in_err-put.field-0.0 (rw c.deref-item-items.ensures.value at c.loop-item-test.true)
    (rw c.deref-item-items.ensures.value at c.item-item.is) c.loop-item.invariant c.in_err-put.ensures)

pub loop-item-preserved : goal.loop-item-preserved
loop-item-preserved g c =
    let n = c.args.number in
    left_more g.O.Output.Takes g.O.Output.Refuses g.met.O.Output.is_output (g.F.Codec.format n) (g.met.F.Codec.lawful n)
    c.args.items.now.items c.args.out.now c.loop-item.out c.put.new.out c.loop-item.item-index
    c.item-item.result (rw c.deref-item-items.ensures.value at c.loop-item-test.true)
    (rw c.deref-item-items.ensures.value at c.item-item.is) c.loop-item.invariant c.in_ok-put.ensures

pub returns : goal.returns
returns g c =
    let n = c.args.number in
    left_done g.O.Output.Takes g.O.Output.Refuses g.met.O.Output.is_output (g.F.Codec.format n) (g.met.F.Codec.lawful n)
    c.args.items.now.items c.args.out.now c.loop-item.out c.loop-item.item-index
    (let h = rw c.deref-item-items.ensures.value at c.loop-item-test.false in omega (arith, h)) c.loop-item.invariant
