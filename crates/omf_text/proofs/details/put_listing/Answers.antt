use Rattle.std.proofs.Common.{refl}
use Rattle.omf_frame.proofs.Told.{Wrote-cut, Wrote-then}
use Rattle.omf_text.proofs.details.put_listing.Goals as goal

pub returns-in_err-put_head_line : goal.returns-in_err-put_head_line
returns-in_err-put_head_line g c =
    Wrote-cut _ _ _ _ _ _ _ _ _ c.in_err-put_head_line.ensures refl c.from_residual.ensures.1

pub returns : goal.returns
returns g c = Wrote-then _ _ _ _ _ _ _ _ _ c.in_ok-put_head_line.ensures c.put_details.ensures
