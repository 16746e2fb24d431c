use Rattle.std.proofs.Common.{◌≡◌, ◌++◌, map}
use Rattle.doslink_telling.specs.Symbols as spec
use Rattle.doslink_telling.specs.inside.Tables.{symbol_said}
use Rattle.doslink_telling.proofs.symbols.numbered.Given as goal

abbrev pub invariant-loop-left : goal.invariant-loop-left
invariant-loop-left g l = map symbol_said l.symbols.items ++ spec.numbered l.left l.wide l.places l.names
    ≡ spec.numbered l.fn.count l.fn.wide l.fn.places l.fn.names

abbrev pub decreases-loop-left : goal.decreases-loop-left
decreases-loop-left g l = l.left
