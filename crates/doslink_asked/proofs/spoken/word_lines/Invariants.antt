use Rattle.std.proofs.Common.{◌≡◌, take}
use Rattle.doslink_words.specs.Tokens.{texts}
use Rattle.doslink_asked.specs.Spoken.{word_lines}
use Rattle.doslink_asked.specs.inside.Spoken.{said_lines}
use Rattle.doslink_asked.proofs.spoken.word_lines.Given as goal

abbrev pub invariant-loop-word : goal.invariant-loop-word
invariant-loop-word l = said_lines l.lines.items ≡ word_lines (texts (take l.word-index l.words))
