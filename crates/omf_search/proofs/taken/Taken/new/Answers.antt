use Rattle.std.proofs.Common.{ap, is_some}
use Rattle.omf_search.specs.Wanted.{met}
use Rattle.omf_search.proofs.taken.Taken.new.Goals as goal

pub returns : goal.returns
unfolding met
returns g c = λ names. record { met = c.new.ensures names; defined = λ q. ap is_some (c.new-2.ensures.none names q) }
