use Rattle.omf_codec.specs.inside.Heads.{by_head_make}
use Rattle.omf_record.specs.inside.Segments.{ByAcbp}
use Rattle.omf_record.proofs.segments.SegmentDefinitionMadeSegmentParts.make.Goals as goal

pub returns : goal.returns
returns c = λ text l. rw c.segment_of.ensures (by_head_make ByAcbp c.args.parts text l)
