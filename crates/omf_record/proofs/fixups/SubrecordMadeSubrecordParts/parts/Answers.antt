use Rattle.omf_codec.specs.inside.Heads.{by_head_splits}
use Rattle.omf_record.specs.inside.Subrecords.{ByFirst}
use Rattle.omf_record.proofs.fixups.SubrecordMadeSubrecordParts.parts.Goals as goal

pub returns : goal.returns
returns c = λ n. rw c.subrecord_parts.ensures (by_head_splits ByFirst c.args.item.now)
