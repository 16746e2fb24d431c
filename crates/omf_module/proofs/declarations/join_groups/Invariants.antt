use Rattle.std.proofs.Common.{◌≡◌, ◌++◌, map, take}
use Rattle.omf_module.specs.Joined.{part_behind}
use Rattle.omf_module.proofs.declarations.join_groups.Given as goal

-- those so far
abbrev pub invariant-loop-index : goal.invariant-loop-index
invariant-loop-index g l =
    l.store
    ≡ record l.fn.store {
      groups = l.fn.store.groups ++ map (part_behind l.segments) (take l.index l.more.groups);
    }
