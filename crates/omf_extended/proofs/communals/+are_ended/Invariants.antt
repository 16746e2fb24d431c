use Rattle.std.proofs.Common.{length}
use Rattle.omf_extended.proofs.communals.+are_ended.Given as goal

abbrev pub decreases-are_ended : goal.decreases-are_ended
decreases-are_ended l = length l.communals.now
