use Rattle.std.proofs.Common.{ap, is_some, sym, ◌∙◌}
use Rattle.doslink_jobs.proofs.Refused.{OnHalt-words}
use Rattle.doslink_jobs.proofs.places.check_output.Goals as goal

pub returns-in-Some : goal.returns-in-Some
returns-in-Some g c =
    OnHalt-words ⊥ c.stop_at_path.result c.stop_at_path.ensures (sym c.mixed_output.ensures ∙ ap is_some c.in-Some.is)

pub returns-in-None : goal.returns-in-None
returns-in-None g c = sym c.mixed_output.ensures ∙ ap is_some c.in-None.is
