use Rattle.std.proofs.Common.{false}
use Rattle.omf_communal.proofs.Sound.{whole}
use Rattle.omf_communal.proofs.laws.communal_module_is_whole.Goals as goal

pub returns : goal.returns
returns c = whole false
