use Rattle.std.proofs.Common.{string_bytes, take}
use Rattle.makefile_words.specs.Tokens.{pieces}
use Rattle.doslink_asked.specs.Lines.{StandsForAll}
use Rattle.doslink_asked.proofs.line_text.replaced.Given as goal

abbrev pub invariant-loop-placed : goal.invariant-loop-placed
invariant-loop-placed g l =
    StandsForAll (g.W.World.bytes l.fn.world) (pieces (take l.placed-index l.fn.tokens)) (string_bytes l.text)
