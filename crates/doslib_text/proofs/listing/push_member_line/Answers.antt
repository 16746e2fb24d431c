use Rattle.doslib_text.proofs.listing.push_member_line.Goals as goal

pub returns : goal.returns
returns g c = rw c.shown_name.ensures at (rw c.as_slice.ensures at c.push_pieces.ensures)
