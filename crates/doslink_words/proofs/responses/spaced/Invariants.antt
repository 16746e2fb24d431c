use Rattle.std.proofs.Common.{◌≡◌, ◌++◌, drop, string_bytes}
use Rattle.doslink_words.specs.Responses.{spaced}
use Rattle.doslink_words.specs.Tokens.{texts}
use Rattle.doslink_words.proofs.responses.spaced.Given as goal

abbrev pub invariant-words : goal.invariant-words
invariant-words l = spaced (texts l.words) ≡ string_bytes l.text ++ spaced (drop l.word-index (texts l.words))
