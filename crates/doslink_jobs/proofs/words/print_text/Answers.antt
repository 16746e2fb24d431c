use Rattle.std.proofs.Common.{[], Ok, inl, refl}
use Rattle.omf_frame.proofs.Told.{Appends-nil}
use Rattle.doslink_jobs.proofs.words.print_text.Goals as goal

pub returns-in-Ok-printed : goal.returns-in-Ok-printed
returns-in-Ok-printed g c = (([], (Ok tt, (Appends-nil (g.E.Sink.written c.args.errors.now), refl))), inl (refl, tt))
