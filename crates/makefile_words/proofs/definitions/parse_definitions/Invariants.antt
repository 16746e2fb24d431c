use Rattle.std.proofs.Common.{length}
use Rattle.std.specs.Str.{IsUtf8}
use Rattle.makefile_words.proofs.DefinitionsLemmas.{IsLeft}
use Rattle.makefile_words.proofs.definitions.parse_definitions.Given as goal

abbrev pub invariant-loop-front : goal.invariant-loop-front
invariant-loop-front l = record { left : IsLeft l.text l.warnings.items l.rest; utf8 : IsUtf8 l.rest }

abbrev pub decreases-loop-front : goal.decreases-loop-front
decreases-loop-front l = length l.rest
