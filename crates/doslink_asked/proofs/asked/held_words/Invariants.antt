use Rattle.std.proofs.Common.{◌≡◌, take}
use Rattle.doslink_words.specs.Tokens.{texts}
use Rattle.doslink_asked.proofs.asked.held_words.Given as goal

abbrev pub invariant-loop-word : goal.invariant-loop-word
invariant-loop-word l = texts l.held.items ≡ texts (take l.word-index l.words)
