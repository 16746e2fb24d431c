use Rattle.std.proofs.Common.{refl}
use Rattle.omf_extended.proofs.Layouts.{comdat_body}
use Rattle.omf_extended.proofs.parse.comdat.Goals as goal

pub parts-requires : goal.parts-requires
parts-requires g c κs = ((refl, tt), rw c.comdat_kind.ensures (comdat_body _))
