use Rattle.omf_commands.specs.Records.{output}
use Rattle.omf_commands.specs.declared.records.Form.TheVariants.{Listing}
use Rattle.omf_commands.proofs.Through.{only_answer}
use Rattle.omf_commands.proofs.records.show.Goals as goal

pub returns-clause-only : goal.returns-clause-only
returns-clause-only g c =
    λ rs bytes rest ended are told.
    only_answer _ _ (output Listing) rs bytes rest _ _ _ _ c.go_through.result ended are told
    c.go_through.ensures.output

pub returns-clause-output : goal.returns-clause-output
returns-clause-output g c = c.go_through.ensures.output
