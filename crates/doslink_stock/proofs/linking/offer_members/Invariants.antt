use Rattle.std.proofs.Common.{◌-◌, List, length, map, take}
use Rattle.omf_place.specs.declared.names.Names.{Names}
use Rattle.omf_search.specs.Said.{Module}
use Rattle.omf_search.specs.Searching.{IsSearch}
use Rattle.doslink_stock.specs.Search.{candidates}
use Rattle.doslink_stock.specs.Seen.{entry_held}
use Rattle.doslink_stock.proofs.linking.offer_members.Given as goal

abbrev pub invariant-loop-index : goal.invariant-loop-index
invariant-loop-index g l = (names : Names) (ms : List Module)
    → IsSearch names ms (candidates (map entry_held (take l.fn.first l.fn.members))) l.initial.search
    → IsSearch names ms (candidates (map entry_held (take l.index l.fn.members))) l.search

abbrev pub decreases-loop-index : goal.decreases-loop-index
decreases-loop-index g l = length l.fn.members - l.index
