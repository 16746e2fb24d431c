use Rattle.std.proofs.Common.{refl}
use Rattle.omf_wide.proofs.Layouts.{fixupp_body}
use Rattle.omf_wide.proofs.parse.fixupp.Goals as goal

pub parts-requires : goal.parts-requires
parts-requires g c κs = ((refl, tt), rw c.fixupp_kind.ensures (fixupp_body {A = g.row.A.Denot} _))
