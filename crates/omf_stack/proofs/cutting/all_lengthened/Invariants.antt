use Rattle.std.proofs.Common.{◌≡◌, Ok}
use Rattle.omf_stack.specs.inside.Cutting.{lengthened, lists}
use Rattle.omf_stack.proofs.cutting.all_lengthened.Given as goal

abbrev pub invariant-loop-one : goal.invariant-loop-one
invariant-loop-one g l = lengthened 0 (lists l.fn.lengths) l.yielded ≡ Ok l.all.items
