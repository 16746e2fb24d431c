use Rattle.std.proofs.Common.{refl}
use Rattle.omf_frame.proofs.Told.{Wrote-cut, Wrote-then}
use Rattle.omf_map.proofs.map.put_map.Goals as goal

pub returns-in_err-put_segment_lines : goal.returns-in_err-put_segment_lines
returns-in_err-put_segment_lines g c =
    Wrote-cut _ _ _ _ _ _ _ _ _ c.in_err-put_segment_lines.ensures refl c.from_residual.ensures.1

pub returns-in_err-put_group_lines : goal.returns-in_err-put_group_lines
returns-in_err-put_group_lines g c =
    Wrote-then _ _ _ _ _ _ _ _ _ c.in_ok-put_segment_lines.ensures
    (Wrote-cut _ _ _ _ _ _ _ _ _ c.in_err-put_group_lines.ensures refl c.from_residual-in_err-put_group_lines.ensures.1)

pub returns-in_err-put_public_lines : goal.returns-in_err-put_public_lines
returns-in_err-put_public_lines g c =
    Wrote-then _ _ _ _ _ _ _ _ _ c.in_ok-put_segment_lines.ensures
    (Wrote-then _ _ _ _ _ _ _ _ _ c.in_ok-put_group_lines.ensures
    (Wrote-cut _ _ _ _ _ _ _ _ _ c.in_err-put_public_lines.ensures refl
    c.from_residual-in_err-put_public_lines.ensures.1))

pub returns : goal.returns
returns g c =
    Wrote-then _ _ _ _ _ _ _ _ _ c.in_ok-put_segment_lines.ensures
    (Wrote-then _ _ _ _ _ _ _ _ _ c.in_ok-put_group_lines.ensures
    (Wrote-then _ _ _ _ _ _ _ _ _ c.in_ok-put_public_lines.ensures c.put_program.ensures))
