use Rattle.std.proofs.Common.{◌++◌, map, ap, ◌∙◌}
use Rattle.omf_frame.specs.Lending.{plain_frame}
use Rattle.omf_alias.specs.Said.{aliases_said}
use Rattle.omf_library.specs.Defaults.{weak_and_lazy}
use Rattle.omf_library.specs.Said.{all_defaulted}
use Rattle.omf_search.specs.Results.{module_said}
use Rattle.doslink_passes.specs.Aliases.{default_aliases}
use Rattle.doslink_passes.proofs.aliases.push_own_defaults.Goals as goal

pub returns : goal.returns
returns g c =
    c.in_ok-push_defaults.ensures
    ∙ ap (λ ds. aliases_said c.args.aliases.now.items
    ++ default_aliases c.args.meanings.now.names (map module_said c.args.meanings.now.says.now) ds)
    (ap all_defaulted c.deref-2.ensures.value ∙ c.in_ok-externals.ensures
    ∙ ap weak_and_lazy (ap (map plain_frame) c.deref.ensures.value ∙ c.in_ok-frames.ensures))
