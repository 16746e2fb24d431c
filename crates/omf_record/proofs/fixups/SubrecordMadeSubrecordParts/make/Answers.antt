use Rattle.omf_codec.specs.inside.Heads.{by_head_make}
use Rattle.omf_record.specs.inside.Subrecords.{ByFirst}
use Rattle.omf_record.proofs.fixups.SubrecordMadeSubrecordParts.make.Goals as goal

pub returns : goal.returns
returns c = λ text l. rw c.subrecord_of.ensures (by_head_make ByFirst c.args.parts text l)
