use Rattle.std.proofs.Common.{refl}
use Rattle.omf_record.proofs.parse.ledata.Goals as goal

pub returns : goal.returns
unfolding Rattle.omf_record.specs.Body.Body Rattle.omf_record.specs.View.view
returns g c = (refl, c.in_ok-segment.ensures)
