use Rattle.omf_codec.specs.inside.Heads.{by_head_splits}
use Rattle.omf_record.specs.inside.Ends.{ByAttribute}
use Rattle.omf_wide.proofs.ends.WideEndMadeWideEndParts.parts.Goals as goal

pub returns : goal.returns
returns g c = λ n. rw c.end_byte.ensures (by_head_splits (ByAttribute _ _) c.args.item.now)
