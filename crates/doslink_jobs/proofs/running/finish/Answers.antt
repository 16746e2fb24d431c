use Rattle.doslink_jobs.proofs.running.finish.Goals as goal

pub returns-clause-told : goal.returns-clause-told
returns-clause-told g c = rw (← c.text_of-text.ensures) (c.put_all.result, c.put_all.ensures)
