use Rattle.omf_codec.specs.inside.Heads.{by_head_make}
use Rattle.omf_wide.specs.inside.Segments.{ByAcbp}
use Rattle.omf_wide.proofs.segments.WideSegmentMadeWideSegmentParts.make.Goals as goal

pub returns : goal.returns
returns g c = λ text l. rw c.segment_of.ensures (by_head_make (ByAcbp _) c.args.parts text l)
