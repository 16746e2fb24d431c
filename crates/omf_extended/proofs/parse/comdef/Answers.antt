use Rattle.std.proofs.Common.{refl}
use Rattle.omf_extended.proofs.Layouts.{comdef_body}
use Rattle.omf_extended.proofs.parse.comdef.Goals as goal

pub parts-requires : goal.parts-requires
parts-requires g c κs = ((refl, tt), rw c.comdef_kind.ensures (comdef_body {A = g.row.A.Denot} _))
