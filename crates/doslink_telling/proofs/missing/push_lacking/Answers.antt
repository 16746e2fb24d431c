use Rattle.doslink_telling.proofs.missing.push_lacking.Goals as goal

pub returns : goal.returns
returns g c = rw c.as_slice.ensures at c.push_pieces.ensures
