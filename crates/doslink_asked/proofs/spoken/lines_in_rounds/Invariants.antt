use Rattle.std.proofs.Common.{ℕ}
use Rattle.doslink_words.specs.Tokens.{texts}
use Rattle.doslink_asked.specs.Spoken.{AreSpoken, word_lines}
use Rattle.doslink_asked.specs.inside.Spoken.{said_lines}
use Rattle.doslink_asked.proofs.spoken.lines_in_rounds.Given as goal

abbrev pub invariant-rounds : goal.invariant-rounds
invariant-rounds g l =
    (rounds : ℕ) × AreSpoken (g.W.World.bytes l.fn.world) rounds (word_lines (texts l.fn.words)) (said_lines l.lines.items)
