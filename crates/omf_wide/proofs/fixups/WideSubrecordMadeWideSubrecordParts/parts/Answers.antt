use Rattle.omf_codec.specs.inside.Heads.{by_head_splits}
use Rattle.omf_wide.specs.inside.Subrecords.{ByFirst}
use Rattle.omf_wide.proofs.fixups.WideSubrecordMadeWideSubrecordParts.parts.Goals as goal

pub returns : goal.returns
returns g c = λ n. rw c.subrecord_parts.ensures (by_head_splits (ByFirst _) c.args.item.now)
