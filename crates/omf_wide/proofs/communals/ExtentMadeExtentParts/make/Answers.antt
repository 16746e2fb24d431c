use Rattle.omf_codec.specs.inside.Heads.{by_head_make}
use Rattle.omf_wide.specs.inside.Communals.{ByDataType}
use Rattle.omf_wide.proofs.communals.ExtentMadeExtentParts.make.Goals as goal

pub returns : goal.returns
returns c = λ text l. rw c.extent_of.ensures (by_head_make ByDataType c.args.parts text l)
