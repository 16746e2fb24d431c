use Rattle.std.proofs.Common.{◌∙◌, map, sym, ap, arith}
use Rattle.std.proofs.lemmas.Result.{err_from_is_err_and}
use Rattle.omf_communal.specs.Reading.{communals_of, plain_communal}
use Rattle.omf_frame.specs.Lending.{plain_frame}
use Rattle.omf_communal.proofs.Entering.{fault-through, record_fault, record_more, records_end, records_first}
use Rattle.omf_communal.proofs.reading.communals.Goals as goal

pub loop-frame-init : goal.loop-frame-init
loop-frame-init g c =
    records_first c.args.scope c.deref-frame-items.result.now c.new-told.result.items c.new-told.ensures.items

pub returns-in_err-push_communals : goal.returns-in_err-push_communals
returns-in_err-push_communals g c =
    let p =
    err_from_is_err_and c.from_residual-in_err-push_communals.result c.from_residual-in_err-push_communals.ensures.1 in
    rw (p.1, p.2)
    (fault-through _ _ _ c.in_err-push_communals.ensures (λ f is.
    sym (ap (λ fs. communals_of c.args.scope (map plain_frame fs)) c.deref-frame-items.ensures.value
    ∙ ap (communals_of c.args.scope) c.in_ok-frames.ensures)
    ∙ record_fault c.args.scope _ c.loop-frame.frame-index c.frame-item.result _ _ f c.loop-frame-test.true
    c.frame-item.is
    c.loop-frame.invariant is))

pub loop-frame-preserved : goal.loop-frame-preserved
loop-frame-preserved g c =
    record_more c.args.scope _ c.loop-frame.frame-index c.frame-item.result (map plain_communal c.loop-frame.told.items)
    _ _
    c.loop-frame-test.true c.frame-item.is c.loop-frame.invariant c.in_ok-push_communals.ensures

pub returns : goal.returns
returns g c =
    sym (ap (λ fs. communals_of c.args.scope (map plain_frame fs)) c.deref-frame-items.ensures.value
    ∙ ap (communals_of c.args.scope) c.in_ok-frames.ensures)
    ∙ records_end c.args.scope _ c.loop-frame.frame-index _ _ (omega arith) c.loop-frame.invariant
