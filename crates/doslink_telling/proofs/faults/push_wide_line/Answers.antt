use Rattle.doslink_telling.proofs.faults.push_wide_line.Goals as goal

pub returns : goal.returns
returns g c = rw c.as_slice.ensures at c.push_pieces.ensures
