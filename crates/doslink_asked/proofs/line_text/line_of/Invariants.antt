use Rattle.std.proofs.Common.{◌≡◌, string_bytes, take}
use Rattle.doslink_words.specs.Tokens.{texts}
use Rattle.doslink_asked.specs.Lines.{line_of}
use Rattle.doslink_asked.proofs.line_text.line_of.Given as goal

abbrev pub invariant-loop-word : goal.invariant-loop-word
invariant-loop-word l = string_bytes l.text ≡ line_of (texts (take l.word-index l.words))
