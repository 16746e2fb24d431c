use Rattle.std.proofs.Common.{◌≡◌, ◌∙◌, Err, rules}
use Rattle.doslink_words.proofs.PartsLemmas.{items_fault, items_more}
use Rattle.doslink_words.proofs.operands.put_items.Goals as goal

pub returns-in_err-put_item : goal.returns-in_err-put_item
returns-in_err-put_item c =
    let is : c.from_residual.result ≡ Err c.in_err-put_item.field-0.0 = search rules in
    items_fault _ _ _ _ _ _ c.in-Some.keyword.now c.in-Some-next.name.now _ c.in_err-put_item.field-0.0 _
    c.in-Some.ensures.steps c.in-Some-next.ensures.steps c.in_err-put_item.ensures is c.loop-keyword.invariant

pub loop-keyword-preserved : goal.loop-keyword-preserved
loop-keyword-preserved c =
    c.loop-keyword.invariant
    ∙ items_more _ _ _ _ _ c.in-Some.keyword.now c.in-Some-next.name.now c.in-Some.ensures.steps
    c.in-Some-next.ensures.steps c.in_ok-put_item.ensures
