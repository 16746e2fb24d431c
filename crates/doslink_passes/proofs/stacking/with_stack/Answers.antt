use Rattle.doslink_passes.specs.Orders.{asking_of}
use Rattle.doslink_passes.specs.Request.{held_of}
use Rattle.doslink_passes.specs.Sources.{linked_said}
use Rattle.doslink_passes.proofs.Refused.{refused-exit}
use Rattle.doslink_passes.proofs.StackSteps.{asked-stack, asked-told, told-where, unasked-stack, unasked-told}
use Rattle.doslink_passes.proofs.StackSteps.{unordered-first}
use Rattle.doslink_passes.proofs.stacking.with_stack.Goals as goal

pub returns-in_err-all-clause-stacked : goal.returns-in_err-all-clause-stacked
returns-in_err-all-clause-stacked g c =
    let q = c.args.request.now in
    let asking = asking_of q.job.now q.marks (held_of q) in
    refused-exit _ c.from_residual.result _ c.from_residual.ensures.1
    (unordered-first asking q.job.now.stack (linked_said c.args.linked)) c.in_err-all.ensures.ordered

pub returns-in-Some-clause-stacked : goal.returns-in-Some-clause-stacked
returns-in-Some-clause-stacked g c =
    let q = c.args.request.now in
    let asking = asking_of q.job.now q.marks (held_of q) in
    asked-stack linked_said c.stacked.result asking q.job.now.stack c.in-Some.stack (linked_said c.args.linked)
    c.in-Some.is
    (c.stacked.ensures.stacked (linked_said c.args.linked) c.in_ok-all.ensures.ordered)

pub returns-in-Some-clause-told : goal.returns-in-Some-clause-told
returns-in-Some-clause-told g c =
    let q = c.args.request.now in
    let asking = asking_of q.job.now q.marks (held_of q) in
    told-where c.stacked.result
    (asked-told asking q.job.now.stack c.in-Some.stack (linked_said c.args.linked) (linked_said c.in_ok-all.all.linked)
    c.in_ok-all.all.has_order _ _ _ c.in-Some.is c.in_ok-all.ensures.ordered c.in_ok-all.ensures.kept)
    c.stacked.ensures.told

pub returns-in-None-clause-stacked : goal.returns-in-None-clause-stacked
returns-in-None-clause-stacked g c =
    let q = c.args.request.now in
    let asking = asking_of q.job.now q.marks (held_of q) in
    unasked-stack asking q.job.now.stack (linked_said c.args.linked) (linked_said c.in_ok-all.all.linked)
    c.in_ok-all.all.has_order c.in-None.is c.in_ok-all.ensures.ordered

pub returns-in-None-clause-told : goal.returns-in-None-clause-told
returns-in-None-clause-told g c =
    let q = c.args.request.now in
    let asking = asking_of q.job.now q.marks (held_of q) in
    unasked-told asking q.job.now.stack (linked_said c.args.linked) _ _ c.in-None.is c.in_ok-all.ensures.kept
