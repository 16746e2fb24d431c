use Rattle.std.proofs.Common.{◌≡◌, length}
use Rattle.doslink_words.specs.Named.{letters_met}
use Rattle.doslink_words.proofs.named.letters_met.Given as goal

abbrev pub invariant-letters : goal.invariant-letters
invariant-letters l = letters_met l.fn.letters ≡ letters_met l.rest

abbrev pub decreases-letters : goal.decreases-letters
decreases-letters l = length l.rest
