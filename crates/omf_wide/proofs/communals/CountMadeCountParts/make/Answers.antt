use Rattle.omf_wide.specs.inside.Communals.{count_make}
use Rattle.omf_wide.proofs.communals.CountMadeCountParts.make.Goals as goal

pub returns : goal.returns
returns c = λ text l. rw c.count_of.ensures (count_make c.args.parts text l)
