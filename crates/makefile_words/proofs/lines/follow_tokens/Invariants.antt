use Rattle.std.proofs.Common.{◌≡◌, drop}
use Rattle.makefile_words.specs.Lines.{tokens_meaning}
use Rattle.makefile_words.specs.inside.Lines.{line_of}
use Rattle.makefile_words.specs.inside.Tokens.{pieces}
use Rattle.makefile_words.proofs.lines.follow_tokens.Given as goal

abbrev pub invariant-tokens : goal.invariant-tokens
invariant-tokens l =
    tokens_meaning l.part l.language (pieces l.tokens) (line_of l.fn.said)
    ≡ tokens_meaning l.part l.language (drop l.placed-index (pieces l.tokens)) (line_of l.line)
