use Rattle.std.proofs.Common.{filter, map, not, ap, ◌∙◌}
use Rattle.std.proofs.lemmas.Result.{IfOk-weaker}
use Rattle.omf_frame.specs.Lending.{plain_frame}
use Rattle.omf_library.specs.Defaults.{is_theirs_alone}
use Rattle.omf_library.specs.Names.{texts}
use Rattle.omf_library.specs.Said.{all_defaulted}
use Rattle.omf_library.proofs.names.needed_of.Goals as goal

pub returns : goal.returns
returns g c =
    IfOk-weaker c.names_but.result _ _
    (λ v items. items
    ∙ ap (λ marked. filter (λ name. not (is_theirs_alone marked (map plain_frame c.args.frames.now) name))
    (texts c.args.names.now)) (ap all_defaulted c.deref.ensures.value ∙ c.in_ok-defaulted.ensures))
    c.names_but.ensures
