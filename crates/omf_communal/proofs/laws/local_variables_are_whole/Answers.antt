use Rattle.omf_communal.proofs.LocalSaid.{are-said}
use Rattle.omf_communal.proofs.laws.local_variables_are_whole.Goals as goal

pub returns : goal.returns
returns c = are-said
