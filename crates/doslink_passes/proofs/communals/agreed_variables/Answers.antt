use Rattle.std.proofs.Common.{IsErr, map, ap, subst, sym, ◌∙◌}
use Rattle.omf_communal.specs.Deciding.{variables}
use Rattle.omf_communal.specs.Modules.{module_said}
use Rattle.doslink_passes.proofs.Refused.{OnInput-weaker, clash-fault}
use Rattle.doslink_passes.proofs.communals.agreed_variables.Goals as goal

pub returns-in-Ok : goal.returns-in-Ok
returns-in-Ok g c =
    ap (variables c.args.names) (sym (ap (map module_said) c.deref.ensures.value ∙ c.in_ok-modules.ensures))
    ∙ c.in-Ok.ensures

pub returns : goal.returns
returns g c =
    OnInput-weaker c.stop_at_clash.result
    (λ other. subst (λ ms. IsErr (variables c.args.names ms))
    (ap (map module_said) c.deref.ensures.value ∙ c.in_ok-modules.ensures)
    (clash-fault c.in-Err.fault _ c.in-Err.ensures other))
    c.stop_at_clash.ensures
