use Rattle.omf_frame.proofs.Told.{Wrote-failed}
use Rattle.omf_text.proofs.PrintLemmas.{items_cut}
use Rattle.omf_text.proofs.pieces.put_each.Goals as goal

pub returns-in_err-put : goal.returns-in_err-put
returns-in_err-put g c =
    let loop = c.loop-item in
    Wrote-failed _ _ _ _ _ _ _
    (items_cut g.T.Printed.text c.args.items.now loop.item-index c.item-item.result _ _ _ _ _ _ c.loop-item-test.true
    loop.invariant.appended loop.invariant.count (rw (← c.item-item.is) c.in_err-put.ensures)) c.from_residual.ensures.1
