use Rattle.std.proofs.Common.{List, length}
use Rattle.omf_place.specs.declared.names.Names.{Names}
use Rattle.omf_search.specs.Said.{Module}
use Rattle.omf_search.specs.Search.{Member}
use Rattle.omf_search.specs.Searching.{IsSearch}
use Rattle.omf_search.proofs.searching.Search.found_again.Given as goal

abbrev pub invariant-loop-place : goal.invariant-loop-place
invariant-loop-place g l = (names : Names) (ms : List Module) (bs : List Member) → IsSearch names ms bs l.fn.self
    → IsSearch names ms bs l.self

abbrev pub decreases-loop-place : goal.decreases-loop-place
decreases-loop-place g l = length l.self.back.keys
