use Rattle.std.proofs.Common.{◌≡◌, map, take}
use Rattle.doslink_words.specs.Said.{Class, items_of}
use Rattle.doslink_words.specs.Tokens.{texts}
use Rattle.doslink_words.proofs.words.classes_of.Given as goal

abbrev pub invariant-names : goal.invariant-names
invariant-names l = items_of l.classes.items ≡ map Class (texts (take l.name-index l.names))
