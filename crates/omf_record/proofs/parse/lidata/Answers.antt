use Rattle.std.proofs.Common.{refl, []}
use Rattle.omf_record.specs.Record.{Lidata}
use Rattle.omf_record.specs.inside.Kinds.{body}
use Rattle.omf_record.proofs.parse.lidata.Goals as goal

pub parts-requires : goal.parts-requires
parts-requires g c κs = ((refl, tt), body g.row.A.Denot (Lidata 0 0 []) 0xA2 refl)
