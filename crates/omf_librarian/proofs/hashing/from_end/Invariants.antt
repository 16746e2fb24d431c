use Rattle.std.proofs.Common.{drop, reverse}
use Rattle.omf_librarian.specs.inside.Views.{IsTurned}
use Rattle.omf_librarian.proofs.hashing.from_end.Given as goal

abbrev pub invariant-loop-at : goal.invariant-loop-at
invariant-loop-at l = IsTurned (reverse (drop l.at l.name)) l.turned
