use Rattle.std.proofs.Common.{◌≡◌, ◌++◌, map, take}
use Rattle.doslink_telling.specs.Duplicates.{public_of}
use Rattle.doslink_telling.specs.inside.Duplicates.{public_said}
use Rattle.doslink_telling.proofs.duplicates.push_publics.Given as goal

abbrev pub invariant-loop-index : goal.invariant-loop-index
invariant-loop-index g l = map public_said l.publics.items
    ≡ map public_said l.initial.publics.items ++ map (public_of l.fn.names l.fn.input) (take l.index l.fn.from.publics)
