use Rattle.std.proofs.Common.{◌∷◌, length, take}
use Rattle.omf_librarian.specs.inside.Views.{IsTurned}
use Rattle.omf_librarian.proofs.hashing.from_front.Given as goal

abbrev pub invariant-loop-byte : goal.invariant-loop-byte
invariant-loop-byte l = IsTurned (length l.name ∷ take l.byte-index l.byte-items) l.turned
