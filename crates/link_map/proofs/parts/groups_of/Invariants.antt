use Rattle.std.proofs.Common.{◌≡◌, None, drop, length, replicate}
use Rattle.std.specs.List.{enumerate_from}
use Rattle.link_map.specs.inside.Details.{with_groups}
use Rattle.link_map.proofs.parts.groups_of.Given as goal

-- the last ones have been set
abbrev pub invariant-loop-index : goal.invariant-loop-index
invariant-loop-index g l =
    l.table.items
    ≡ with_groups (enumerate_from l.index (drop l.index l.from.groups)) (replicate (length l.from.segments) None)
