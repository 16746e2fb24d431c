use Rattle.std.proofs.Common.{◌≡◌, ◌-◌, ◌++◌, List, drop, length, map}
use Rattle.doslink_stock.specs.Placed.{ArePlaced}
use Rattle.doslink_stock.specs.Search.{TakenFor}
use Rattle.doslink_stock.specs.Seen.{entry_held, handed_taken}
use Rattle.doslink_stock.proofs.searching.handed_at_each.Given as goal

abbrev pub invariant-loop-index : goal.invariant-loop-index
invariant-loop-index g l = (taken : List TakenFor)
    → ArePlaced (map entry_held l.fn.objects) (map entry_held l.fn.members) l.fn.linked taken
    → map handed_taken l.handed.items ++ drop l.index taken ≡ drop l.fn.first taken

abbrev pub decreases-loop-index : goal.decreases-loop-index
decreases-loop-index g l = length l.fn.linked - l.index
