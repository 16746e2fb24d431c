use Rattle.doslib_jobs.proofs.reading.push_unread.Goals as goal

pub returns : goal.returns
returns g c = rw c.unread_text.ensures at (rw c.as_slice.ensures at c.push_pieces.ensures)
