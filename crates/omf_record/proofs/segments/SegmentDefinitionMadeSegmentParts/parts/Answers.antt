use Rattle.omf_codec.specs.inside.Heads.{by_head_splits}
use Rattle.omf_record.specs.inside.Segments.{ByAcbp}
use Rattle.omf_record.proofs.segments.SegmentDefinitionMadeSegmentParts.parts.Goals as goal

pub returns : goal.returns
returns c = λ n. rw c.segment_parts.ensures (by_head_splits ByAcbp c.args.item.now)
