use Rattle.std.proofs.Common.{◌≡◌, length}
use Rattle.doslink_words.specs.Tokens.{texts}
use Rattle.makefile_words.specs.Cut.{are_options}
use Rattle.makefile_words.proofs.cut.are_options.Given as goal

abbrev pub invariant-options : goal.invariant-options
invariant-options l = are_options l.language (texts l.fn.options) ≡ are_options l.language (texts l.rest)

abbrev pub decreases-options : goal.decreases-options
decreases-options l = length l.rest
