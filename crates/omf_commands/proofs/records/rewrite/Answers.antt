use Rattle.std.specs.Prelude.{Result, Ok, Err, OnOk}
use Rattle.std.specs.declared.option.Option.{Option}
use Rattle.std.specs.Prelude.{List, ℕ}
use Rattle.omf_faults.specs.declared.fault.LinkFault.{LinkFault}
use Rattle.omf_commands.specs.Records.{output}
use Rattle.omf_commands.specs.Reading.{GoesThrough, AppendsRewritten}
use Rattle.omf_commands.specs.declared.records.Form.TheVariants.{Rewriting}
use Rattle.omf_commands.proofs.Through.{only_answer, again}
use Rattle.omf_commands.proofs.records.rewrite.Goals as goal

pub returns-clause-only : goal.returns-clause-only
returns-clause-only g c =
    λ rs bytes rest ended are told.
    only_answer _ _ (output Rewriting) rs bytes rest _ _ _ _ c.go_through.result ended are told
    c.go_through.ensures.output

at_ok : {A : Type 0} (a b w v : Option (List ℕ)) (r : Result (Unit {0}) (LinkFault A))
    → GoesThrough (output Rewriting) a b w v r → OnOk r (AppendsRewritten a b w v)
at_ok {A} a b w v (Ok x) k = again A a b w v x k
at_ok a b w v (Err e) k = tt

pub returns-clause-again : goal.returns-clause-again
returns-clause-again g c = at_ok _ _ _ _ c.go_through.result c.go_through.ensures.output
