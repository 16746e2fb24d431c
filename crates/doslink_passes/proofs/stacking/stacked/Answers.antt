use Rattle.std.proofs.Common.{◌≡◌, Some, true, inr, subst, ◌∙◌}
use Rattle.omf_stack.specs.Answer.{Added, TooLong, answer}
use Rattle.doslink_passes.specs.Linked.{HasBehind}
use Rattle.doslink_passes.specs.Orders.{asking_of}
use Rattle.doslink_passes.specs.Request.{held_of}
use Rattle.doslink_passes.specs.Sources.{linked_said}
use Rattle.doslink_passes.proofs.Refused.{refused-exit}
use Rattle.doslink_passes.proofs.StackSteps.{answered, behind-ordered, in-order-again, stacked-as, told-where}
use Rattle.doslink_passes.proofs.StackSteps.{cut-told, unstacked-as}
use Rattle.doslink_passes.proofs.stacking.stacked.Goals as goal

pub returns-in_err-linked-in-Added-clause-stacked : goal.returns-in_err-linked-in-Added-clause-stacked
returns-in_err-linked-in-Added-clause-stacked g c l ordered =
    let q = c.args.request.now in
    let asking = asking_of q.job.now q.marks (held_of q) in
    let front = linked_said c.args.all.linked in
    let is : Added c.in-Added.bytes.items ≡ answer front.modules c.args.stack.bytes =
    answered _ _ _ _ c.args.stack.bytes c.in-Added.is c.deref.ensures.value c.in_ok-stack_module.ensures in
    refused-exit _ c.from_residual-in_err-linked-in-Added.result _ c.from_residual-in_err-linked-in-Added.ensures.1
    (λ none. unstacked-as asking c.args.stack l c.args.all.has_order front _ ordered is none)
    c.in_err-linked-in-Added.ensures.behind

pub returns-in-Added-clause-stacked : goal.returns-in-Added-clause-stacked
returns-in-Added-clause-stacked g c l ordered =
    let q = c.args.request.now in
    let asking = asking_of q.job.now q.marks (held_of q) in
    let front = linked_said c.args.all.linked in
    let is : Added c.in-Added.bytes.items ≡ answer front.modules c.args.stack.bytes =
    answered _ _ _ _ c.args.stack.bytes c.in-Added.is c.deref.ensures.value c.in_ok-stack_module.ensures in
    let behind : HasBehind l c.in-Added.bytes.items (linked_said c.in_ok-linked-in-Added.linked) =
    subst (λ x. HasBehind x c.in-Added.bytes.items (linked_said c.in_ok-linked-in-Added.linked))
    (c.behind_order.ensures ∙ behind-ordered asking l c.args.all.has_order front ordered)
    c.in_ok-linked-in-Added.ensures.behind in
    in-order-again linked_said c.reordered.result asking (Some c.args.stack) l
    (linked_said c.in_ok-linked-in-Added.linked)
    (stacked-as asking c.args.stack l _ c.args.all.has_order front _ ordered is behind)
    c.reordered.ensures.ordered

pub returns-in_err-linked-in-TooLong-clause-stacked : goal.returns-in_err-linked-in-TooLong-clause-stacked
returns-in_err-linked-in-TooLong-clause-stacked g c l ordered =
    let q = c.args.request.now in
    let asking = asking_of q.job.now q.marks (held_of q) in
    let front = linked_said c.args.all.linked in
    let is : TooLong ≡ answer front.modules c.args.stack.bytes =
    answered _ _ _ _ c.args.stack.bytes c.in-TooLong.is c.deref.ensures.value c.in_ok-stack_module.ensures in
    let cuts : c.args.stack.cuts ≡ true = c.if-stack.true in
    refused-exit _ c.from_residual-in_err-linked-in-TooLong.result _
    c.from_residual-in_err-linked-in-TooLong.ensures.1
    (λ err. unstacked-as asking c.args.stack l c.args.all.has_order front _ ordered is (inr (cuts, err)))
    c.in_err-linked-in-TooLong.ensures.cut

pub returns-in-TooLong-clause-stacked : goal.returns-in-TooLong-clause-stacked
returns-in-TooLong-clause-stacked g c l ordered =
    let q = c.args.request.now in
    let asking = asking_of q.job.now q.marks (held_of q) in
    let front = linked_said c.args.all.linked in
    let is : TooLong ≡ answer front.modules c.args.stack.bytes =
    answered _ _ _ _ c.args.stack.bytes c.in-TooLong.is c.deref.ensures.value c.in_ok-stack_module.ensures in
    let cuts : c.args.stack.cuts ≡ true = c.if-stack.true in
    in-order-again linked_said c.reordered-in-TooLong.result asking (Some c.args.stack) l
    (linked_said c.behind_order-linked.result)
    (stacked-as asking c.args.stack l _ c.args.all.has_order front _ ordered is (
      cuts,
      linked_said c.in_ok-linked-in-TooLong.linked,
      c.in_ok-linked-in-TooLong.ensures.cut,
      c.behind_order-linked.ensures,
    ))
    c.reordered-in-TooLong.ensures.ordered

pub returns-in-TooLong-clause-told : goal.returns-in-TooLong-clause-told
returns-in-TooLong-clause-told g c =
    let is : TooLong ≡ answer c.args.all.linked.modules.items c.args.stack.bytes =
    answered _ _ _ _ c.args.stack.bytes c.in-TooLong.is c.deref.ensures.value c.in_ok-stack_module.ensures in
    told-where c.reordered-in-TooLong.result
    (λ same. cut-told c.args.stack _ _ _ _ _ is same c.in_ok-linked-in-TooLong.ensures.kept
    c.in_ok-push_cut_stack-in-TooLong.ensures)
    c.reordered-in-TooLong.ensures.kept
