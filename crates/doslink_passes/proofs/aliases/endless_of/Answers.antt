use Rattle.std.proofs.Common.{◌++◌, map, ap, ap₂, ◌∙◌}
use Rattle.omf_alias.specs.Meaning.{endless}
use Rattle.omf_alias.specs.Reading.{aliases_of}
use Rattle.omf_alias.specs.Said.{aliases_said}
use Rattle.omf_library.specs.Records.{module_records}
use Rattle.omf_search.specs.Results.{module_said}
use Rattle.doslink_passes.specs.Aliases.{own_defaults}
use Rattle.doslink_passes.proofs.aliases.endless_of.Goals as goal

pub returns : goal.returns
returns g c =
    let m = c.args.meanings.now in
    c.endless.ensures
    ∙ ap₂ endless (c.renaming.ensures ∙ c.in_ok-all.ensures)
    (ap aliases_said c.deref.ensures.value ∙ c.in_ok-push_own_defaults.ensures
    ∙ ap (λ l. l ++ own_defaults m.names (map module_said m.says.now) c.args.module.now)
    (c.in_ok-push_module_aliases.ensures
    ∙ ap (λ l. aliases_said l ++ aliases_of (module_records c.args.module.now 0)) c.new-own.ensures.items))
