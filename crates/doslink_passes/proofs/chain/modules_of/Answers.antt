use Rattle.doslink_passes.proofs.chain.modules_of.Goals as goal

pub modules_by-requires : goal.modules_by-requires
modules_by-requires g c = c.in_ok-meanings.ensures

pub returns : goal.returns
returns g c = c.modules_by.ensures
