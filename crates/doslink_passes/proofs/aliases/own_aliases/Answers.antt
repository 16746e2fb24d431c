use Rattle.std.proofs.Common.{◌++◌, map, ap, ap₂, ◌∙◌}
use Rattle.std.proofs.lemmas.Result.{IfOk-weaker}
use Rattle.omf_alias.specs.Said.{aliases_said}
use Rattle.omf_search.specs.Results.{module_said}
use Rattle.doslink_passes.specs.Aliases.{own_defaults}
use Rattle.doslink_passes.proofs.Held.{renaming-with}
use Rattle.doslink_passes.proofs.aliases.own_aliases.Goals as goal

pub returns : goal.returns
returns g c =
    let m = c.args.meanings.now in
    IfOk-weaker c.with.result _ _
    (λ all with. with
    ∙ ap₂ (renaming-with (aliases_said m.aliases.aliases.items)) m.same
    (c.in_ok-push_own_defaults.ensures
    ∙ ap (λ l. aliases_said l ++ own_defaults m.names (map module_said m.says.now) c.args.module.now)
    c.new-own.ensures.items))
    c.with.ensures
