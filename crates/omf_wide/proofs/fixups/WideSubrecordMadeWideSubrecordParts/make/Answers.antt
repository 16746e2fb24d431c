use Rattle.omf_codec.specs.inside.Heads.{by_head_make}
use Rattle.omf_wide.specs.inside.Subrecords.{ByFirst}
use Rattle.omf_wide.proofs.fixups.WideSubrecordMadeWideSubrecordParts.make.Goals as goal

pub returns : goal.returns
returns g c = λ text l. rw c.subrecord_of.ensures (by_head_make (ByFirst _) c.args.parts text l)
