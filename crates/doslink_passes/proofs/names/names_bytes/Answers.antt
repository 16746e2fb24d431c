use Rattle.std.proofs.Common.{ap, ap₂, ◌∙◌}
use Rattle.std.specs.Option.{option_map}
use Rattle.omf_names.specs.Records.{names_module}
use Rattle.omf_names.specs.Views.{aliases_said}
use Rattle.doslink_words.specs.Said.{aliases_of}
use Rattle.doslink_words.specs.Tokens.{texts}
use Rattle.doslink_passes.proofs.names.names_bytes.Goals as goal

pub returns : goal.returns
returns g c =
    c.in_ok-bytes.ensures
    ∙ ap₂ (names_module (option_map (λ s. s.now) c.args.job.now.start)) (ap texts c.deref-2.ensures.value)
    (ap aliases_said c.deref-3.ensures.value ∙ c.in_ok-aliases.ensures ∙ ap aliases_of c.deref.ensures.value)
