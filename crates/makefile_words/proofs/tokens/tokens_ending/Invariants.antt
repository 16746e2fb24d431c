use Rattle.std.proofs.Common.{length}
use Rattle.std.specs.Str.{IsUtf8}
use Rattle.makefile_words.specs.inside.Tokens.{pieces}
use Rattle.makefile_words.proofs.TokensLemmas.{IsLeft}
use Rattle.makefile_words.proofs.tokens.tokens_ending.Given as goal

abbrev pub invariant-loop-rest : goal.invariant-loop-rest
invariant-loop-rest l =
    record { left : IsLeft l.language l.total l.text (pieces l.tokens.items) l.rest; utf8 : IsUtf8 l.rest }

abbrev pub decreases-loop-rest : goal.decreases-loop-rest
decreases-loop-rest l = length l.rest
