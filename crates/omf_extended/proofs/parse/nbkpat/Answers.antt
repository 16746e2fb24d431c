use Rattle.std.proofs.Common.{refl}
use Rattle.omf_extended.proofs.Layouts.{nbkpat_body}
use Rattle.omf_extended.proofs.parse.nbkpat.Goals as goal

pub parts-requires : goal.parts-requires
parts-requires g c κs = ((refl, tt), rw c.nbkpat_kind.ensures (nbkpat_body {A = g.row.A.Denot} _))
