use Rattle.doslink_telling.proofs.faults.push_absent_line.Goals as goal

pub returns : goal.returns
returns g c = rw c.told_part.ensures at (rw c.cut_end.ensures at (rw c.as_slice.ensures at c.push_pieces.ensures))
