use Rattle.omf_module.proofs.Once as once
use Rattle.omf_module.proofs.laws.one_module.Goals as goal

pub returns : goal.returns
returns c = once.one_module
