use Rattle.std.proofs.Common.{refl}
use Rattle.std.proofs.lemmas.List.{map-id}
use Rattle.omf_record.proofs.parse.fixupp.Goals as goal

pub returns : goal.returns
unfolding Rattle.omf_record.specs.Body.Body Rattle.omf_record.specs.View.view
returns g c = (refl, rw (map-id c.in_ok-subrecords.subrecords.items) at c.in_ok-subrecords.ensures)
