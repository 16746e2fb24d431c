use Rattle.omf_extended.specs.inside.Comdats.{comdat_make}
use Rattle.omf_extended.proofs.comdats.ComdatMadeComdatParts.make.Goals as goal

pub returns : goal.returns
returns g c = λ text l. rw c.comdat_of.ensures (comdat_make _ c.args.parts text l)
