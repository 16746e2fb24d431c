use Rattle.doslib_jobs.specs.inside.Running.{outcome_said}
use Rattle.doslib_jobs.proofs.jobs.run_job.Goals as goal

pub returns : goal.returns
returns g c = record {
  answer = outcome_said c.answer_job-answer.result;
  answered = c.answer_job-answer.ensures;
  line = c.finish.ensures.line;
  ends = c.finish.ensures.status;
}
