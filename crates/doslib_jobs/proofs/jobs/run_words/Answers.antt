use Rattle.std.proofs.Common.{inl}
use Rattle.doslib_jobs.proofs.jobs.run_words.Goals as goal

pub returns-in-Ok : goal.returns-in-Ok
returns-in-Ok g c = inl (c.in-Ok.job, c.in-Ok.ensures.job, c.run_job.ensures)
