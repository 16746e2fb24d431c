use Rattle.std.proofs.Common.{◌∙◌, codes}
use Rattle.std.proofs.lemmas.Result.{IfErr-weaker, IfOk-weaker}
use Rattle.clap.specs.Words.{found_of, rows_of}
use Rattle.clap.proofs.WalkLemmas.{first_value-rows}
use Rattle.doslink_words.proofs.WordsLemmas.{IfErr-same, form_wrong, stack_wrong, wrong_by_map_form}
use Rattle.doslink_words.proofs.words.check_values.Goals as goal

pub returns-in_err-check_stack-clause-err : goal.returns-in_err-check_stack-clause-err
returns-in_err-check_stack-clause-err c =
    let f = found_of c.args.values.now in
    IfErr-same c.from_residual.result
    (stack_wrong (rows_of f) _ (c.get_str.ensures ∙ first_value-rows f (codes "N")) c.in_err-check_stack.ensures.err)

pub returns-in_err-check_form-clause-err : goal.returns-in_err-check_form-clause-err
returns-in_err-check_form-clause-err c =
    let f = found_of c.args.values.now in
    IfErr-same c.from_residual-in_err-check_form.result
    (form_wrong (rows_of f) _ (c.get_str.ensures ∙ first_value-rows f (codes "N")) _ _
    (c.get_str-2.ensures ∙ first_value-rows f (codes "FORM"))
    (c.get_str-3.ensures ∙ first_value-rows f (codes "PARAGRAPH")) c.in_ok-check_stack.ensures.ok
    c.in_err-check_form.ensures.err)

pub returns-clause-ok : goal.returns-clause-ok
returns-clause-ok c =
    let f = found_of c.args.values.now in
    IfOk-weaker c.check_map_form.result _ _
    (λ done fine. wrong_by_map_form (rows_of f) _ (c.get_str.ensures ∙ first_value-rows f (codes "N")) _ _
    (c.get_str-2.ensures ∙ first_value-rows f (codes "FORM"))
    (c.get_str-3.ensures ∙ first_value-rows f (codes "PARAGRAPH")) c.in_ok-check_stack.ensures.ok _
    (c.get_str-4.ensures ∙ first_value-rows f (codes "NAME")) c.in_ok-check_form.ensures.ok ∙ fine)
    c.check_map_form.ensures.ok

pub returns-clause-err : goal.returns-clause-err
returns-clause-err c =
    let f = found_of c.args.values.now in
    IfErr-weaker c.check_map_form.result _ _
    (λ fault wrong. wrong_by_map_form (rows_of f) _ (c.get_str.ensures ∙ first_value-rows f (codes "N")) _ _
    (c.get_str-2.ensures ∙ first_value-rows f (codes "FORM"))
    (c.get_str-3.ensures ∙ first_value-rows f (codes "PARAGRAPH")) c.in_ok-check_stack.ensures.ok _
    (c.get_str-4.ensures ∙ first_value-rows f (codes "NAME")) c.in_ok-check_form.ensures.ok ∙ wrong)
    c.check_map_form.ensures.err
