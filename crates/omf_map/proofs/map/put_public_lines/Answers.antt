use Rattle.std.proofs.Common.{refl}
use Rattle.omf_map.specs.Map.{public_lines}
use Rattle.omf_frame.proofs.Told.{Wrote-cut, Wrote-then}
use Rattle.omf_map.proofs.map.put_public_lines.Goals as goal

pub returns-in_err-put_all : goal.returns-in_err-put_all
unfolding public_lines
returns-in_err-put_all g c = Wrote-cut _ _ _ _ _ _ _ _ _ c.in_err-put_all.ensures refl c.from_residual.ensures.1

pub returns : goal.returns
unfolding public_lines
returns g c = Wrote-then _ _ _ _ _ _ _ _ _ c.in_ok-put_all.ensures c.put_all_publics.ensures
