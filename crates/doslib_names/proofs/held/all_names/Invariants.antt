use Rattle.std.proofs.Common.{◌≡◌, ◌++◌, [], map, take}
use Rattle.omf_search.specs.Results.{needs_said}
use Rattle.doslib_names.specs.Names.{says}
use Rattle.doslib_names.specs.Said.{held_said}
use Rattle.doslib_names.proofs.held.all_names.Given as goal

abbrev pub invariant-loop-held : goal.invariant-loop-held
invariant-loop-held g l =
    map needs_said l.names.items ≡ [] ++ map (λ h. says (held_said h)) (take l.held-index l.modules)
