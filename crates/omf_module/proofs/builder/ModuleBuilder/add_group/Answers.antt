use Rattle.std.proofs.Common.{refl, sym, ◌∙◌}
use Rattle.std.proofs.lemmas.Result.{err_from_is_err_and}
use Rattle.omf_module.specs.inside.Running.{step_record}
use Rattle.omf_module.proofs.builder.ModuleBuilder.add_group.Goals as goal

pub returns-in-Some : goal.returns-in-Some
unfolding step_record
returns-in-Some g c = rw (← c.in-Some.ensures) refl

pub returns-in_err-push_group : goal.returns-in_err-push_group
returns-in_err-push_group g c =
    let p = err_from_is_err_and c.from_residual.result c.from_residual.ensures.1 in
    rw (p.1, p.2) tt

pub returns : goal.returns
unfolding step_record
returns g c =
    let none = sym c.group_fault.ensures ∙ c.in_default.is in
    rw (none, c.in_ok-push_group.ensures) refl
