use Rattle.std.proofs.Common.{refl}
use Rattle.omf_map.specs.Map.{segment_lines}
use Rattle.omf_frame.proofs.Told.{Wrote-cut, Wrote-then}
use Rattle.omf_map.proofs.map.put_segment_lines.Goals as goal

pub returns-in_err-put_all : goal.returns-in_err-put_all
unfolding segment_lines
returns-in_err-put_all g c = Wrote-cut _ _ _ _ _ _ _ _ _ c.in_err-put_all.ensures refl c.from_residual.ensures.1

pub returns-in_err-put_all_combined : goal.returns-in_err-put_all_combined
unfolding segment_lines
returns-in_err-put_all_combined g c =
    Wrote-then _ _ _ _ _ _ _ _ _ c.in_ok-put_all.ensures
    (Wrote-cut _ _ _ _ _ _ _ _ _ c.in_err-put_all_combined.ensures refl
    c.from_residual-in_err-put_all_combined.ensures.1)

pub returns : goal.returns
unfolding segment_lines
returns g c =
    Wrote-then _ _ _ _ _ _ _ _ _ c.in_ok-put_all.ensures
    (Wrote-then _ _ _ _ _ _ _ _ _ c.in_ok-put_all_combined.ensures c.put_all_absolutes.ensures)
