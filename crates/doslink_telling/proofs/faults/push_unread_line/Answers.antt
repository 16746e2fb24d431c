use Rattle.doslink_telling.proofs.faults.push_unread_line.Goals as goal

pub returns : goal.returns
returns g c = rw c.unread_text.ensures at (rw c.as_slice.ensures at c.push_pieces.ensures)
