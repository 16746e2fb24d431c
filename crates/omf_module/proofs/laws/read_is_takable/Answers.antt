use Rattle.omf_module.proofs.Takable.{takable_of}
use Rattle.omf_module.proofs.laws.read_is_takable.Goals as goal

pub returns : goal.returns
returns c = λ kind r body h len. takable_of r body h.1 len
