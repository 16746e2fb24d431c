use Rattle.doslink_telling.proofs.communals.push_clash.Goals as goal

pub returns-in-NearAndFar : goal.returns-in-NearAndFar
returns-in-NearAndFar g c = rw c.in-NearAndFar.is c.push_clashing.ensures

pub returns-in-ElementSizes : goal.returns-in-ElementSizes
returns-in-ElementSizes g c = rw c.in-ElementSizes.is c.push_clashing-in-ElementSizes.ensures
