use Rattle.doslink_telling.proofs.warnings.push_long_stack.Goals as goal

pub returns : goal.returns
returns g c = rw c.from.ensures at c.push_counted.ensures
