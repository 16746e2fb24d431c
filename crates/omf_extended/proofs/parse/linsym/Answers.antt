use Rattle.std.proofs.Common.{refl}
use Rattle.omf_extended.proofs.Layouts.{linsym_body}
use Rattle.omf_extended.proofs.parse.linsym.Goals as goal

pub parts-requires : goal.parts-requires
parts-requires g c κs = ((refl, tt), rw c.linsym_kind.ensures (linsym_body {A = g.row.A.Denot} _))
