use Rattle.std.proofs.Common.{◌≡◌, ◌++◌, map, drop}
use Rattle.std.specs.List.{enumerate_from}
use Rattle.omf_search.specs.Results.{member_said}
use Rattle.doslink_stock.specs.Search.{candidate, candidates}
use Rattle.doslink_stock.specs.Seen.{entry_held}
use Rattle.doslink_stock.proofs.searching.members_of.Given as goal

abbrev pub invariant-loop-member : goal.invariant-loop-member
invariant-loop-member g l = map member_said l.all.items
    ++ map candidate (enumerate_from l.member (map entry_held (drop l.member l.fn.entries)))
    ≡ candidates (map entry_held l.fn.entries)
