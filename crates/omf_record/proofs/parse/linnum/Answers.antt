use Rattle.std.proofs.Common.{refl, []}
use Rattle.std.proofs.lemmas.List.{map-id}
use Rattle.omf_record.specs.Record.{Linnum}
use Rattle.omf_record.specs.inside.Kinds.{body}
use Rattle.omf_record.proofs.parse.linnum.Goals as goal

pub parts-requires : goal.parts-requires
parts-requires g c κs = ((refl, tt), body g.row.A.Denot (Linnum 0 0 []) 0x94 refl)

pub returns : goal.returns
unfolding Rattle.omf_record.specs.Body.Body Rattle.omf_record.specs.View.view
returns g c = (refl, rw (map-id c.in_ok-group.lines.items) at c.in_ok-group.ensures)
