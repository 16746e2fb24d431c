use Rattle.std.proofs.Common.{◌≤◌, ◌++◌, List, map}
use Rattle.std.specs.List.{filter_map}
use Rattle.omf_place.specs.declared.names.Names.{Names}
use Rattle.omf_search.specs.Search.{Choice, Chooses}
use Rattle.omf_search.proofs.Slack.{slack}
use Rattle.doslink_stock.specs.Files.{Held}
use Rattle.doslink_stock.specs.inside.Linked.{AreLinked}
use Rattle.doslink_stock.specs.Search.{TakenFor, candidates, member_taken, says_of}
use Rattle.doslink_stock.specs.Seen.{entry_held}
use Rattle.doslink_stock.proofs.linking.take_members.Given as goal

abbrev pub invariant-loop-left : goal.invariant-loop-left
invariant-loop-left g l = (names : Names) (objects : List Held) (taken : List TakenFor)
    → AreLinked names objects (map entry_held l.fn.members) (candidates (map entry_held l.fn.members)) taken
    l.initial.search l.initial.linked.items
    → (done : List Choice)
    × AreLinked names objects (map entry_held l.fn.members) (candidates (map entry_held l.fn.members))
    (taken ++ filter_map (member_taken (map entry_held l.fn.members)) done) l.search l.linked.items
    × ((cs : List Choice) → Chooses names (candidates (map entry_held l.fn.members))
    (says_of (taken ++ filter_map (member_taken (map entry_held l.fn.members)) done)) cs
    → Chooses names (candidates (map entry_held l.fn.members)) (says_of taken) (done ++ cs))
    × (slack names (says_of (taken ++ filter_map (member_taken (map entry_held l.fn.members)) done))
    (candidates (map entry_held l.fn.members)) ≤ l.left)

abbrev pub decreases-loop-left : goal.decreases-loop-left
decreases-loop-left g l = l.left
