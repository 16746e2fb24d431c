use Rattle.std.proofs.Common.{◌≡◌, map, take}
use Rattle.doslink_words.specs.Tokens.{text_of, texts}
use Rattle.doslink_words.specs.inside.Tokens.{pieces}
use Rattle.doslink_words.proofs.tokens.texts_of.Given as goal

abbrev pub invariant-tokens : goal.invariant-tokens
invariant-tokens l = texts l.words.items ≡ map text_of (pieces (take l.token-index l.tokens))
