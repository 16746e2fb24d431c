use Rattle.std.proofs.Common.{refl, []}
use Rattle.std.proofs.lemmas.List.{map-id}
use Rattle.omf_record.specs.Record.{Grpdef}
use Rattle.omf_record.specs.inside.Kinds.{body}
use Rattle.omf_record.proofs.parse.grpdef.Goals as goal

pub parts-requires : goal.parts-requires
parts-requires g c κs = ((refl, tt), body g.row.A.Denot (Grpdef 0 []) 0x9A refl)

pub returns : goal.returns
unfolding Rattle.omf_record.specs.Body.Body Rattle.omf_record.specs.View.view
returns g c = (refl, rw (map-id c.in_ok-name.segments.items) at c.in_ok-name.ensures)
