use Rattle.std.proofs.Common.{inr, refl, subst, Some, None}
use Rattle.std.specs.Option.{option_map}
use Rattle.doslink_passes.specs.Orders.{IsOrderModule, asking_of}
use Rattle.doslink_passes.specs.Request.{held_of}
use Rattle.doslink_passes.proofs.Refused.{refused-exit}
use Rattle.doslink_passes.proofs.ordering.with_order.Goals as goal

pub returns-in_err-linked-in-Some-clause-ordered : goal.returns-in_err-linked-in-Some-clause-ordered
returns-in_err-linked-in-Some-clause-ordered g c =
    let q = c.args.request.now in
    let asking = asking_of q.job.now q.marks (held_of q) in
    let told : IsOrderModule asking c.args.linked.modules.items (Some c.in-Some.bytes.items) =
    subst (λ o. IsOrderModule asking c.args.linked.modules.items (option_map (λ v. v.items) o)) c.in-Some.is
    c.in_ok-bytes.ensures.order in
    refused-exit _ c.from_residual-in_err-linked-in-Some.result _ c.from_residual-in_err-linked-in-Some.ensures.1
    (λ none. inr (c.in-Some.bytes.items, told, none)) c.in_err-linked-in-Some.ensures.front

pub returns-in_ok-linked-in-Some-clause-ordered : goal.returns-in_ok-linked-in-Some-clause-ordered
returns-in_ok-linked-in-Some-clause-ordered g c =
    let q = c.args.request.now in
    let asking = asking_of q.job.now q.marks (held_of q) in
    let told : IsOrderModule asking c.args.linked.modules.items (Some c.in-Some.bytes.items) =
    subst (λ o. IsOrderModule asking c.args.linked.modules.items (option_map (λ v. v.items) o)) c.in-Some.is
    c.in_ok-bytes.ensures.order in
    (c.in-Some.bytes.items, told, c.in_ok-linked-in-Some.ensures.front)

pub returns-in-None-clause-ordered : goal.returns-in-None-clause-ordered
returns-in-None-clause-ordered g c =
    let q = c.args.request.now in
    let asking = asking_of q.job.now q.marks (held_of q) in
    let told : IsOrderModule asking c.args.linked.modules.items None =
    subst (λ o. IsOrderModule asking c.args.linked.modules.items (option_map (λ v. v.items) o)) c.in-None.is
    c.in_ok-bytes.ensures.order in
    (told, refl)
