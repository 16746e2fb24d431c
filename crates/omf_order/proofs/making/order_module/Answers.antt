use Rattle.std.proofs.Common.{◌≡◌, ◌∙◌, ◌≤◌, ap, length, subst, sym}
use Rattle.std.proofs.lemmas.Result.{err_from_is_err_and}
use Rattle.omf_order.specs.Plan.{Plan, is_needless, plan}
use Rattle.omf_order.specs.inside.Fits.{Fits}
use Rattle.omf_order.specs.inside.Held.{plan_view}
use Rattle.omf_order.proofs.Fitting.{plan_fits}
use Rattle.omf_order.proofs.Refusing.{answer_is, refusal_is}
use Rattle.omf_order.proofs.making.order_module.Goals as goal

pub checked_bytes-requires : goal.checked_bytes-requires
checked_bytes-requires g c = λ few.
    let e : plan_view c.in_ok-plan.plan ≡ plan c.args.order c.args.names c.args.modules.now = c.in_ok-plan.ensures in
    subst Fits (sym e)
    (plan_fits c.args.order c.args.names c.args.modules.now c.all_promise.ensures
    (subst (λ (p : Plan). length p.parts ≤ 16383) e few))

pub returns-in_err-plan : goal.returns-in_err-plan
returns-in_err-plan g c =
    let p = err_from_is_err_and c.from_residual.result c.from_residual.ensures.1 in rw (p.1, p.2) tt

pub returns-then-is_needless : goal.returns-then-is_needless
returns-then-is_needless g c =
    sym (ap (is_needless c.args.order) c.in_ok-plan.ensures) ∙ sym c.is_needless.ensures ∙ c.if-is_needless.true

pub returns-in_err-bytes : goal.returns-in_err-bytes
returns-in_err-bytes g c =
    let made = c.in_ok-plan.plan in
    let e : plan_view made ≡ plan c.args.order c.args.names c.args.modules.now = c.in_ok-plan.ensures in
    let p =
    err_from_is_err_and c.from_residual-in_err-bytes.result c.from_residual-in_err-bytes.ensures.1 in
    rw (p.1, p.2)
    (refusal_is g.row.A.Denot c.args.order c.args.modules.now (plan_view made) _ _ e
    (sym c.is_needless.ensures ∙ c.if-is_needless.false) c.in_err-bytes.ensures)

pub returns : goal.returns
returns g c =
    let made = c.in_ok-plan.plan in
    let e : plan_view made ≡ plan c.args.order c.args.names c.args.modules.now = c.in_ok-plan.ensures in
    answer_is c.args.order c.args.modules.now (plan_view made) _ c.in_ok-bytes.bytes e
    (sym c.is_needless.ensures ∙ c.if-is_needless.false) c.in_ok-bytes.ensures
