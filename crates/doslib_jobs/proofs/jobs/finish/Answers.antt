use Rattle.doslib_jobs.proofs.jobs.finish.Goals as goal

pub returns-in-Ok-clause-line : goal.returns-in-Ok-clause-line
returns-in-Ok-clause-line g c =
    rw (c.in-Ok.is, ← c.deref.ensures.value) (c.put_all.result, c.put_all.ensures)

pub returns-in-Err-clause-line : goal.returns-in-Err-clause-line
returns-in-Err-clause-line g c =
    rw (c.in-Err.is, ← c.line.ensures, ← c.as_bytes.ensures.value) (c.put_all-in-Err.result, c.put_all-in-Err.ensures)
