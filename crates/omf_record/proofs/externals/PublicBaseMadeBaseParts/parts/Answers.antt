use Rattle.omf_record.specs.declared.externals.PublicBase.TheVariants.{AtFrame, InSegment}
use Rattle.omf_record.specs.inside.Shapes.{base_splits}
use Rattle.omf_record.proofs.externals.PublicBaseMadeBaseParts.parts.Goals as goal

pub returns-in-AtFrame : goal.returns-in-AtFrame
returns-in-AtFrame c = λ n. rw c.in-AtFrame.is (base_splits (AtFrame c.in-AtFrame.group c.in-AtFrame.frame))

pub returns-in-InSegment : goal.returns-in-InSegment
returns-in-InSegment c = λ n. rw c.in-InSegment.is (base_splits (InSegment c.in-InSegment.group c.in-InSegment.segment))
