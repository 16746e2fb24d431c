use Rattle.omf_module.proofs.Once as once
use Rattle.omf_module.proofs.laws.no_fault.Goals as goal

pub returns : goal.returns
returns c = once.no_fault
