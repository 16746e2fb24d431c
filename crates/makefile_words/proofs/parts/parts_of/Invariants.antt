use Rattle.std.proofs.Common.{length}
use Rattle.std.specs.Str.{IsUtf8}
use Rattle.doslink_words.specs.Tokens.{texts}
use Rattle.makefile_words.proofs.PartsLemmas.{IsRest}
use Rattle.makefile_words.proofs.parts.parts_of.Given as goal

abbrev pub invariant-parts : goal.invariant-parts
invariant-parts l = record { left : IsRest l.mark l.text (texts l.parts.items) l.rest; utf8 : IsUtf8 l.rest }

abbrev pub decreases-parts : goal.decreases-parts
decreases-parts l = length l.rest
