use Rattle.omf_wide.specs.inside.Communals.{count_split}
use Rattle.omf_wide.proofs.communals.CountMadeCountParts.parts.Goals as goal

pub returns : goal.returns
returns c = λ n. rw c.count_parts.ensures (count_split c.args.item.now)
