use Rattle.std.proofs.Common.{refl}
use Rattle.omf_frame.proofs.Told.{Wrote-cut, Wrote-then}
use Rattle.link_map.specs.Map.{group_lines}
use Rattle.link_map.proofs.map.put_groups.Goals as goal

pub returns-in_err-put_all-in-Link : goal.returns-in_err-put_all-in-Link
unfolding group_lines
returns-in_err-put_all-in-Link g c =
    rw c.in-Link.is
    (Wrote-cut _ _ _ _ _ _ _ _ _ c.in_err-put_all-in-Link.ensures refl c.from_residual.ensures.1)

pub returns-in_ok-put_all-in-Link : goal.returns-in_ok-put_all-in-Link
unfolding group_lines
returns-in_ok-put_all-in-Link g c =
    rw c.in-Link.is (Wrote-then _ _ _ _ _ _ _ _ _ c.in_ok-put_all-in-Link.ensures c.put_all_groups.ensures)
