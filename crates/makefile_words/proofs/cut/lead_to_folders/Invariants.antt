use Rattle.std.proofs.Common.{◌≡◌, length}
use Rattle.doslink_words.specs.Tokens.{texts}
use Rattle.makefile_words.specs.Cut.{lead_to_folders}
use Rattle.makefile_words.proofs.cut.lead_to_folders.Given as goal

abbrev pub invariant-options : goal.invariant-options
invariant-options l = lead_to_folders l.language (texts l.fn.options) ≡ lead_to_folders l.language (texts l.rest)

abbrev pub decreases-options : goal.decreases-options
decreases-options l = length l.rest
