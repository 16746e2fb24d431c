use Rattle.std.proofs.Common.{◌≡◌, ◌-◌, ◌++◌, List, drop, length, map}
use Rattle.omf_place.specs.declared.names.Names.{Names}
use Rattle.omf_search.specs.Search.{Member}
use Rattle.doslink_stock.specs.Files.{Held}
use Rattle.doslink_stock.specs.inside.Linked.{AreLinked}
use Rattle.doslink_stock.specs.Search.{TakenFor, object_taken}
use Rattle.doslink_stock.specs.Seen.{entry_held}
use Rattle.doslink_stock.proofs.linking.link_objects.Given as goal

abbrev pub invariant-loop-index : goal.invariant-loop-index
invariant-loop-index g l = (names : Names) (members : List Held) (bs : List Member) (taken : List TakenFor)
    → AreLinked names (map entry_held l.fn.objects) members bs taken l.initial.search l.initial.linked.items
    → (done : List TakenFor)
    × AreLinked names (map entry_held l.fn.objects) members bs (taken ++ done) l.search l.linked.items
    × (done ++ map object_taken (map entry_held (drop l.index l.fn.objects))
    ≡ map object_taken (map entry_held (drop l.fn.first l.fn.objects)))

abbrev pub decreases-loop-index : goal.decreases-loop-index
decreases-loop-index g l = length l.fn.objects - l.index
