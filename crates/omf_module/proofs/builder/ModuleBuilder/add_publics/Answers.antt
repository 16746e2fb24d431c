use Rattle.std.proofs.Common.{refl, sym, ◌∙◌}
use Rattle.std.proofs.lemmas.Result.{err_from_is_err_and}
use Rattle.omf_module.specs.inside.Running.{step_record}
use Rattle.omf_module.proofs.builder.ModuleBuilder.add_publics.Goals as goal

pub returns-in-Some-clause-gives : goal.returns-in-Some-clause-gives
unfolding step_record
returns-in-Some-clause-gives g c = rw (← c.in-Some.ensures) refl

pub returns-in_err-add_publics-clause-gives : goal.returns-in_err-add_publics-clause-gives
returns-in_err-add_publics-clause-gives g c =
    let p = err_from_is_err_and c.from_residual.result c.from_residual.ensures.1 in
    rw (p.1, p.2) tt

pub returns-clause-gives : goal.returns-clause-gives
unfolding step_record
returns-clause-gives g c =
    let none = sym c.public_fault.ensures ∙ c.in_default.is in
    rw (none, c.in_ok-add_publics.ensures.kept) refl
