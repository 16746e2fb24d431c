use Rattle.doslink_passes.proofs.stacking.reordered.Goals as goal

pub returns-clause-ordered : goal.returns-clause-ordered
returns-clause-ordered g c = (c.in_ok-all.all.has_order, c.in_ok-all.ensures.ordered)
