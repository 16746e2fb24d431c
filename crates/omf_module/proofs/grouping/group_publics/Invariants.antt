use Rattle.std.proofs.Common.{◌≡◌, ℕ, List, ◌++◌, map, take, drop}
use Rattle.std.specs.List.{AllByRecursion}
use Rattle.omf_module.specs.Grouped.{public_in}
use Rattle.omf_module.specs.inside.Store.{public_symbol, PublicIsIn}
use Rattle.omf_module.proofs.grouping.group_publics.Given as goal

-- those before the index are changed, and all keep their names
abbrev pub invariant-loop-index : goal.invariant-loop-index
invariant-loop-index l = record {
  says : (bytes : List ℕ) → map (public_symbol bytes) l.publics
      ≡ map (public_in l.joined l.group) (take l.index (map (public_symbol bytes) l.fn.publics))
      ++ drop l.index (map (public_symbol bytes) l.fn.publics);
  inside : (bytes : List ℕ) → AllByRecursion (PublicIsIn bytes) l.fn.publics
      → AllByRecursion (PublicIsIn bytes) l.publics;
}
