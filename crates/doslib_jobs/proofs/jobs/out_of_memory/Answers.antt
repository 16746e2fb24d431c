use Rattle.doslib_jobs.proofs.jobs.out_of_memory.Goals as goal

pub returns-clause-line : goal.returns-clause-line
returns-clause-line g c = rw (← c.line.ensures, ← c.as_bytes.ensures.value) (c.put_all.result, c.put_all.ensures)
