use Rattle.std.proofs.Common.{◌-◌, List, length}
use Rattle.omf_place.specs.declared.names.Names.{Names}
use Rattle.omf_search.specs.Said.{Module}
use Rattle.omf_search.specs.Search.{Member}
use Rattle.omf_search.specs.Searching.{IsSearch}
use Rattle.omf_search.specs.inside.Back.{IsSettled}
use Rattle.omf_search.proofs.searching.Search.next_found.Given as goal

abbrev pub invariant-loop-self : goal.invariant-loop-self
invariant-loop-self g l = (names : Names) (ms : List Module) (bs : List Member) → IsSearch names ms bs l.fn.self
    → IsSearch names ms bs l.self × IsSettled names ms bs l.self.next

abbrev pub decreases-loop-self : goal.decreases-loop-self
decreases-loop-self g l = length l.self.taken.meeting.wanted.items - l.self.next
