use Rattle.std.proofs.Common.{◌∙◌, ◌||◌, ap, arith, refl, sym}
use Rattle.std.proofs.lemmas.List.{take_all}
use Rattle.std.proofs.lemmas.List.Folds.{list_any_at}
use Rattle.std.specs.List.{list_any}
use Rattle.omf_module.specs.Module.{Module}
use Rattle.omf_stack.specs.Answer.{has_dgroup, is_dgroup}
use Rattle.omf_stack.proofs.Lists.{any_turn}
use Rattle.omf_stack.proofs.making.has_dgroup.Goals as goal

pub returns-then-has_group : goal.returns-then-has_group
returns-then-has_group g c =
    let test = λ (m : Module). list_any is_dgroup m.groups in
    sym
    (list_any_at test c.args.modules.now c.loop-each.each-index c.each-item.result c.loop-each-test.true
    (ap test (sym c.each-item.is) ∙ sym c.has_group.ensures ∙ c.if-has_group.true))

pub loop-each-preserved : goal.loop-each-preserved
loop-each-preserved g c =
    let test = λ (m : Module). list_any is_dgroup m.groups in
    any_turn test c.args.modules.now c.loop-each.each-index c.each-item.result c.loop-each-test.true c.each-item.is
    ∙ ap (λ b. b || test c.each-item.result) c.loop-each.invariant ∙ sym c.has_group.ensures ∙ c.if-has_group.false

pub loop-each-init : goal.loop-each-init
loop-each-init g c = refl

pub returns : goal.returns
returns g c =
    sym
    (ap has_dgroup (sym (take_all c.loop-each.each-index c.args.modules.now (omega arith))) ∙ c.loop-each.invariant)
