use Rattle.std.proofs.Common.{length}
use Rattle.std.specs.Str.{IsUtf8}
use Rattle.makefile_words.proofs.CutLemmas.{IsHead}
use Rattle.makefile_words.proofs.cut.head.Given as goal

abbrev pub invariant-pieces : goal.invariant-pieces
invariant-pieces l = record { left : IsHead l.language l.word l.head; utf8 : IsUtf8 l.head }

abbrev pub decreases-pieces : goal.decreases-pieces
decreases-pieces l = length l.head
