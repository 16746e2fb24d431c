use Rattle.doslib_jobs.proofs.jobs.wrong_words.Goals as goal

pub returns-clause-text : goal.returns-clause-text
returns-clause-text g c = rw (← c.as_bytes.ensures.value) (c.put_all.result, c.put_all.ensures)
