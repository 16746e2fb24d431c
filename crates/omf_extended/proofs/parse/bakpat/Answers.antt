use Rattle.std.proofs.Common.{refl}
use Rattle.omf_extended.proofs.Layouts.{bakpat_body}
use Rattle.omf_extended.proofs.parse.bakpat.Goals as goal

pub parts-requires : goal.parts-requires
parts-requires g c κs = ((refl, tt), rw c.bakpat_kind.ensures (bakpat_body {A = g.row.A.Denot} _))
