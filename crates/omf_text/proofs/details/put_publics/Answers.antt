use Rattle.std.proofs.Common.{refl}
use Rattle.omf_frame.proofs.Told.{Wrote-cut, Wrote-then}
use Rattle.omf_text.proofs.details.put_publics.Goals as goal

pub returns-in_err-put_base : goal.returns-in_err-put_base
returns-in_err-put_base g c = Wrote-cut _ _ _ _ _ _ _ _ _ c.in_err-put_base.ensures refl c.from_residual.ensures.1

pub returns : goal.returns
returns g c = Wrote-then _ _ _ _ _ _ _ _ _ c.in_ok-put_base.ensures c.put_public_lines.ensures
