use Rattle.std.proofs.Common.{refl}
use Rattle.omf_frame.proofs.Told.{Wrote-cut, Wrote-then}
use Rattle.link_map.specs.Map.{segment_lines}
use Rattle.link_map.proofs.map.put_segments.Goals as goal

pub returns-in_err-put_all : goal.returns-in_err-put_all
unfolding segment_lines
returns-in_err-put_all g c =
    Wrote-cut _ _ _ _ _ _ _ _ _ (rw c.heading.ensures at c.in_err-put_all.ensures) refl c.from_residual.ensures.1

pub returns : goal.returns
unfolding segment_lines
returns g c =
    Wrote-then _ _ _ _ _ _ _ _ _ (rw c.heading.ensures at c.in_ok-put_all.ensures) c.put_all_combined.ensures
