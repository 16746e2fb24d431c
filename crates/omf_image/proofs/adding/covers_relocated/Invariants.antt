use Rattle.omf_image.proofs.Covering.{IsSeen}
use Rattle.omf_image.proofs.adding.covers_relocated.Given as goal

abbrev pub invariant-loop-address : goal.invariant-loop-address
invariant-loop-address l = IsSeen l.words l.first l.address l.covers
