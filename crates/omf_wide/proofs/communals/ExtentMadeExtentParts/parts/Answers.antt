use Rattle.omf_codec.specs.inside.Heads.{by_head_splits}
use Rattle.omf_wide.specs.inside.Communals.{ByDataType}
use Rattle.omf_wide.proofs.communals.ExtentMadeExtentParts.parts.Goals as goal

pub returns : goal.returns
returns c = λ n. rw c.extent_parts.ensures (by_head_splits ByDataType c.args.item.now)
