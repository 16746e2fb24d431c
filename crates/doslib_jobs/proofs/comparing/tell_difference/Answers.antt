use Rattle.doslib_jobs.proofs.Searching.{told-difference}
use Rattle.doslib_jobs.proofs.comparing.tell_difference.Goals as goal

pub returns : goal.returns
returns g c =
    told-difference _ c.args.compared c.args.place _ _ _ _ _ c.raise.new.self
    c.in_ok-print_difference.ensures.line (rw c.in_ok-index.ensures at c.in_ok-outcome.ensures.added)
    c.in_ok-flush.ensures.same c.raise.ensures.lines c.raise.ensures.status
