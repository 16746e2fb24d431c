use Rattle.std.proofs.Common.{List, take}
use Rattle.omf_place.specs.declared.names.Names.{Names}
use Rattle.omf_search.specs.Results.{bytes_of}
use Rattle.omf_search.specs.Said.{Module}
use Rattle.omf_search.specs.Search.{Member}
use Rattle.omf_search.specs.Searching.{IsSearch}
use Rattle.omf_search.specs.inside.Back.{LooksAgain}
use Rattle.omf_search.proofs.searching.Search.add_member.Given as goal

abbrev pub invariant-loop-offered : goal.invariant-loop-offered
invariant-loop-offered g l = (names : Names) (ms : List Module) (bs : List Member) → IsSearch names ms bs l.fn.self
    → LooksAgain names ms bs (bytes_of (take l.offered-index l.fn.says.offered.now)) l.self
