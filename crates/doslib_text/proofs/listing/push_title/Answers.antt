use Rattle.doslib_text.proofs.listing.push_title.Goals as goal

pub returns : goal.returns
returns g c =
    rw (← c.as_bytes.ensures.value) (rw c.kind_word.ensures at (rw c.as_slice.ensures at c.push_pieces.ensures))
