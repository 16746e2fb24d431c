use Rattle.doslink_telling.proofs.faults.push_endless_alias.Goals as goal

pub returns : goal.returns
returns g c = rw c.as_slice.ensures at c.push_pieces.ensures
