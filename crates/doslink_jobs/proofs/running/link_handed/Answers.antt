use Rattle.doslink_jobs.proofs.running.link_handed.Goals as goal

pub returns : goal.returns
returns g c = c.link_told.ensures
