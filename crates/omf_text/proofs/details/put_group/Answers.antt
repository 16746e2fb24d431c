use Rattle.std.proofs.Common.{refl}
use Rattle.omf_text.specs.Details.{details}
use Rattle.omf_frame.proofs.Told.{Wrote-cut, Wrote-then}
use Rattle.omf_text.proofs.details.put_group.Goals as goal

pub returns-in_err-put_group_line : goal.returns-in_err-put_group_line
unfolding details
returns-in_err-put_group_line g c =
    Wrote-cut _ _ _ _ _ _ _ _ _ c.in_err-put_group_line.ensures refl c.from_residual.ensures.1

pub returns : goal.returns
unfolding details
returns g c = Wrote-then _ _ _ _ _ _ _ _ _ c.in_ok-put_group_line.ensures c.put_each.ensures
