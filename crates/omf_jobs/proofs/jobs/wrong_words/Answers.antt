use Rattle.std.proofs.Common.{refl}
use Rattle.omf_jobs.proofs.jobs.wrong_words.Goals as goal

pub returns-clause-text : goal.returns-clause-text
returns-clause-text g c = rw (← c.as_bytes.ensures.value) (c.put_all.result, c.put_all.ensures)

pub returns-clause-status : goal.returns-clause-status
returns-clause-status g c = refl
