use Rattle.omf_communal.proofs.Apart.{placed}
use Rattle.omf_communal.proofs.laws.places_are_apart.Goals as goal

pub returns : goal.returns
returns c = placed
