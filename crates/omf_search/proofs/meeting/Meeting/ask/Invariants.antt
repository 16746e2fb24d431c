use Rattle.std.proofs.Common.{◌≡◌, option_copied}
use Rattle.omf_search.specs.Taken.{IsMet}
use Rattle.omf_search.specs.inside.Asking.{then_ask}
use Rattle.omf_search.specs.Wanted.{Met, ask}
use Rattle.omf_search.proofs.meeting.Meeting.ask.Given as goal

abbrev pub invariant-loop-next : goal.invariant-loop-next
invariant-loop-next g l = (s : Met) → IsMet l.fn.names s l.fn.self
    → (t : Met) × IsMet l.fn.names t l.self
    × (then_ask l.fn.names l.left (t, option_copied l.next) ≡ ask l.fn.names s l.fn.name)

abbrev pub decreases-loop-next : goal.decreases-loop-next
decreases-loop-next g l = l.left
