use Rattle.std.proofs.Common.{◌≡◌, ◌++◌, map}
use Rattle.doslink_telling.specs.Symbols as spec
use Rattle.doslink_telling.specs.inside.Tables.{symbol_said}
use Rattle.doslink_telling.proofs.symbols.paired.Given as goal

abbrev pub invariant-loop-left : goal.invariant-loop-left
invariant-loop-left g l = map symbol_said l.symbols.items ++ spec.paired l.left l.names l.pairs
    ≡ spec.paired l.fn.count l.fn.names l.fn.pairs

abbrev pub decreases-loop-left : goal.decreases-loop-left
decreases-loop-left g l = l.left
