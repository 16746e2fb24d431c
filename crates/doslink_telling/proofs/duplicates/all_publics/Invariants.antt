use Rattle.std.proofs.Common.{◌≡◌, ◌++◌, drop, map}
use Rattle.std.specs.List.{enumerate_from, flat_map}
use Rattle.doslink_telling.specs.Duplicates.{all_publics, publics_of}
use Rattle.doslink_telling.specs.inside.Duplicates.{public_said}
use Rattle.doslink_telling.proofs.duplicates.all_publics.Given as goal

abbrev pub invariant-loop-input : goal.invariant-loop-input
invariant-loop-input g l = map public_said l.publics.items
    ++ flat_map (publics_of l.fn.names) (enumerate_from l.input (drop l.input l.fn.modules))
    ≡ all_publics l.fn.names l.fn.modules
