use Rattle.std.proofs.Common.{◌≡◌, ◌++◌, drop}
use Rattle.doslink_words.specs.declared.named.Expected.TheVariants.{Any}
use Rattle.doslink_words.specs.Named.{kinds_named}
use Rattle.doslink_words.specs.Tokens.{texts}
use Rattle.doslink_words.proofs.named.kinds_named.Given as goal

abbrev pub invariant-words : goal.invariant-words
invariant-words l =
    kinds_named Any (texts l.words) ≡ l.kinds.items ++ kinds_named l.expected (drop l.word-index (texts l.words))
