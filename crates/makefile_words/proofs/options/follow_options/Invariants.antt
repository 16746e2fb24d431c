use Rattle.std.proofs.Common.{◌≡◌, drop}
use Rattle.doslink_words.specs.Tokens.{texts}
use Rattle.makefile_words.specs.Lines.{with_options}
use Rattle.makefile_words.specs.inside.Lines.{line_of}
use Rattle.makefile_words.proofs.options.follow_options.Given as goal

abbrev pub invariant-options : goal.invariant-options
invariant-options l =
    with_options l.place l.language (texts l.options) (line_of l.fn.line)
    ≡ with_options l.place l.language (drop l.option-index (texts l.options)) (line_of l.line)
