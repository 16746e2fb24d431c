use Rattle.omf_codec.specs.inside.Heads.{by_head_splits}
use Rattle.omf_wide.specs.inside.Segments.{ByAcbp}
use Rattle.omf_wide.proofs.segments.WideSegmentMadeWideSegmentParts.parts.Goals as goal

pub returns : goal.returns
returns g c = λ n. rw c.segment_parts.ensures (by_head_splits (ByAcbp _) c.args.item.now)
