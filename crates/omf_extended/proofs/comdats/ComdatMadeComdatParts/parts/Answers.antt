use Rattle.omf_extended.specs.inside.Comdats.{comdat_split}
use Rattle.omf_extended.proofs.comdats.ComdatMadeComdatParts.parts.Goals as goal

pub returns : goal.returns
returns g c = λ n. rw c.comdat_parts.ensures (comdat_split _ c.args.item.now)
