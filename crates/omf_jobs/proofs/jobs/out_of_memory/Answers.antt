use Rattle.omf_jobs.proofs.jobs.out_of_memory.Goals as goal

pub returns-clause-status : goal.returns-clause-status
returns-clause-status g c = c.finish.ensures.status
