use Rattle.omf_jobs.proofs.jobs.run_job.Goals as goal

pub returns : goal.returns
returns g c = record {
  answer = c.answer_job-answer.result.0;
  file = c.answer_job-answer.result.1.now;
  answered = c.answer_job-answer.ensures;
  line = c.finish.ensures.line;
  ends = c.finish.ensures.status;
}
