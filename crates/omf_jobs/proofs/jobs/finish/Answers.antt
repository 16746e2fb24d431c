use Rattle.std.proofs.Common.{Ok, refl}
use Rattle.omf_frame.proofs.Told.{Appends-nil}
use Rattle.omf_jobs.proofs.jobs.finish.Goals as goal

pub returns-in_default-clause-line : goal.returns-in_default-clause-line
returns-in_default-clause-line g c =
    rw c.in_default.is (Ok tt, (Appends-nil (g.E.Sink.written c.args.errors.now), refl))

pub returns-clause-line : goal.returns-clause-line
returns-clause-line g c = rw c.in-Err.is (c.fault_line.result, c.fault_line.ensures)
