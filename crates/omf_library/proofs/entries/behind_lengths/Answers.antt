use Rattle.std.proofs.Common.{ap, ◌∙◌}
use Rattle.std.specs.Option.{option_and_then}
use Rattle.omf_library.specs.Entries.{behind_length}
use Rattle.omf_library.proofs.entries.behind_lengths.Goals as goal

pub returns-clause-said : goal.returns-clause-said
returns-clause-said c =
    c.behind_length-2.ensures.said ∙ ap (option_and_then behind_length) c.in_ok-behind_length.ensures.said
