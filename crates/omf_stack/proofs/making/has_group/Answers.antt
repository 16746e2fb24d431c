use Rattle.std.proofs.Common.{◌∙◌, ap, arith, refl, sym}
use Rattle.std.proofs.lemmas.List.{take_all}
use Rattle.std.specs.List.{list_any}
use Rattle.omf_stack.specs.Answer.{is_dgroup}
use Rattle.omf_stack.proofs.Lists.{any_at, any_kept}
use Rattle.omf_stack.proofs.making.has_group.Goals as goal

pub returns-then-is_dgroup : goal.returns-then-is_dgroup
returns-then-is_dgroup g c =
    sym (any_at is_dgroup c.args.from.now.groups c.loop-index.index _ c.group-group.ensures
    (sym c.is_dgroup.ensures ∙ c.if-is_dgroup.true))

pub loop-index-preserved : goal.loop-index-preserved
loop-index-preserved g c =
    any_kept is_dgroup c.args.from.now.groups c.loop-index.index _ c.group-group.ensures
    c.loop-index.invariant (sym c.is_dgroup.ensures ∙ c.if-is_dgroup.false)

pub loop-index-init : goal.loop-index-init
loop-index-init g c = refl

pub returns : goal.returns
returns g c =
    sym
    (ap (list_any is_dgroup) (sym (take_all c.loop-index.index c.args.from.now.groups (omega arith)))
    ∙ c.loop-index.invariant)
