use Rattle.std.proofs.Common.{◌≡◌, ◌++◌, map, take}
use Rattle.omf_module.specs.Joined.{public_behind}
use Rattle.omf_module.proofs.declarations.join_publics.Given as goal

-- those so far
abbrev pub invariant-loop-index : goal.invariant-loop-index
invariant-loop-index g l =
    l.store
    ≡ record l.fn.store {
      publics =
          l.fn.store.publics
          ++ map (public_behind l.behind.segments l.behind.groups) (take l.index l.more.publics);
    }
