use Rattle.std.proofs.Common.{ap, sym, ◌∙◌}
use Rattle.std.proofs.lemmas.List.{take_rest}
use Rattle.omf_library.specs.Entries.{behind_bytes}
use Rattle.omf_library.proofs.Fronts.{length_of_four, length_of_three, length_of_two}
use Rattle.omf_library.proofs.entries.behind_length.Goals as goal

pub returns-in-129-clause-said : goal.returns-in-129-clause-said
returns-in-129-clause-said c =
    c.behind_bytes.ensures.said ∙ ap (behind_bytes 2) (take_rest c.args.bytes.now 1)
    ∙ sym (length_of_two c.args.bytes.now c.in-len1-up.len_at_least c.in-129.is)

pub returns-in-132-clause-said : goal.returns-in-132-clause-said
returns-in-132-clause-said c =
    c.behind_bytes-in-132.ensures.said ∙ ap (behind_bytes 3) (take_rest c.args.bytes.now 1)
    ∙ sym (length_of_three c.args.bytes.now c.in-len1-up.len_at_least c.in-132.is)

pub returns-in-136-clause-said : goal.returns-in-136-clause-said
returns-in-136-clause-said c =
    c.behind_bytes-in-136.ensures.said ∙ ap (behind_bytes 4) (take_rest c.args.bytes.now 1)
    ∙ sym (length_of_four c.args.bytes.now c.in-len1-up.len_at_least c.in-136.is)
