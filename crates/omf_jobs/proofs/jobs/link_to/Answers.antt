use Rattle.std.proofs.Common.{ℕ, List, Result}
use Rattle.omf_faults.specs.declared.fault.LinkFault.{LinkFault}
use Rattle.omf_commands.specs.declared.linking.Report.{Report}
use Rattle.omf_commands.specs.Outcome.{AreTold, Outcome}
use Rattle.omf_jobs.proofs.Settling.{settled-flushed, settled-kept}
use Rattle.omf_jobs.proofs.jobs.link_to.Goals as goal

pub returns : goal.returns
returns g c =
    let P : Result (Report g.row.A.Denot) (LinkFault g.row.A.Denot) → Type 0 = λ a. (inputs : List (List ℕ))
    → AreTold g.S.Source.remaining c.args.sources.now inputs → Outcome c.args.options.now.names inputs a in
    settled-kept P _ c.kept.result c.kept.ensures
    (settled-flushed P _ _ c.link-result.result _ c.flushed-answer.ensures.kept c.flushed-answer.ensures.failed
    c.link-result.ensures.outcome)
