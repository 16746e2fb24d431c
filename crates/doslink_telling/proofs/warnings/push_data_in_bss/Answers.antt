use Rattle.doslink_telling.proofs.warnings.push_data_in_bss.Goals as goal

pub returns : goal.returns
returns g c = rw c.as_slice.ensures at c.push_pieces.ensures
