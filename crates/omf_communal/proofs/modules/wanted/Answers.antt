use Rattle.std.proofs.Common.{◌∙◌, map, not, ap}
use Rattle.std.proofs.lemmas.Result.{IfOk-weaker}
use Rattle.std.specs.List.{filter}
use Rattle.omf_communal.specs.Modules.{Declared, is_offered, module_said}
use Rattle.omf_communal.specs.inside.Met.{declared_said}
use Rattle.omf_communal.proofs.modules.wanted.Goals as goal

pub returns : goal.returns
returns g c =
    let offers = is_offered c.args.names (map module_said c.args.modules.now) in
    IfOk-weaker c.unoffered.result _ _
    (λ v told. told offers c.in_ok-offered.ensures
    ∙ ap (filter (λ (d : Declared). not (offers d.name)))
    (ap (map declared_said) c.deref.ensures.value ∙ c.in_ok-declared.ensures))
    c.unoffered.ensures
