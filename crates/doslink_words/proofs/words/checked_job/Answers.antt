use Rattle.std.proofs.Common.{◌∙◌, sym, true≢false}
use Rattle.doslink_words.proofs.words.checked_job.Goals as goal

pub returns-in_err-check_values-clause-refused : goal.returns-in_err-check_values-clause-refused
returns-in_err-check_values-clause-refused c = λ fine.
    absurd (true≢false (sym c.in_err-check_values.ensures.err ∙ fine))

pub returns-clause-job : goal.returns-clause-job
returns-clause-job c = (c.in_ok-check_values.ensures.ok, c.in_ok-job_of.ensures)
