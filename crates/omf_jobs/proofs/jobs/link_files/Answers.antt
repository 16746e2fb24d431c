use Rattle.std.proofs.Common.{◌≡◌, ℕ, List, Ok}
use Rattle.omf_commands.specs.Outcome.{AreTold, Outcome}
use Rattle.omf_jobs.proofs.Settling.{settled-weaker}
use Rattle.omf_jobs.proofs.jobs.link_files.Goals as goal

pub returns-in-Some : goal.returns-in-Some
returns-in-Some g c = settled-weaker {T = Unit {0}} {A = g.row.A.Denot} (λ a. a ≡ Ok tt)
    (λ a. (inputs : List (List ℕ)) → AreTold g.S.Source.remaining c.args.sources.now inputs
    → Outcome c.args.options.now.names inputs a)
    (λ a is inputs are. rw is (c.in-Ok.ensures inputs are)) _ c.map_to.ensures
