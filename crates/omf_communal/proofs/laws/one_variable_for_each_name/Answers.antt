use Rattle.omf_communal.proofs.Once.{once}
use Rattle.omf_communal.proofs.laws.one_variable_for_each_name.Goals as goal

pub returns : goal.returns
returns c = once
