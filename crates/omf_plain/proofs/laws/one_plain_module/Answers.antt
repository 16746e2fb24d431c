use Rattle.omf_plain.proofs.Walks.{one_module}
use Rattle.omf_plain.proofs.laws.one_plain_module.Goals as goal

pub returns : goal.returns
returns c = one_module
