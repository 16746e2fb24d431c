use Rattle.omf_alias.proofs.Chains.{is_end}
use Rattle.omf_alias.proofs.laws.meanings_are_ends.Goals as goal

pub returns : goal.returns
returns c = is_end
