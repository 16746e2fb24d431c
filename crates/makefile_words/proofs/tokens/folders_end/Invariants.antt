use Rattle.std.proofs.Common.{◌-◌, length}
use Rattle.makefile_words.proofs.TokensLemmas.{IsEnding}
use Rattle.makefile_words.proofs.tokens.folders_end.Given as goal

abbrev pub invariant-quoted : goal.invariant-quoted
invariant-quoted l = IsEnding l.text l.front l.end

abbrev pub decreases-quoted : goal.decreases-quoted
decreases-quoted l = length l.text - l.end
