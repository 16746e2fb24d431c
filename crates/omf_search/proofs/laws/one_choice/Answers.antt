use Rattle.omf_search.proofs.ChoiceLaws.{only}
use Rattle.omf_search.proofs.laws.one_choice.Goals as goal

pub returns : goal.returns
returns c = only
