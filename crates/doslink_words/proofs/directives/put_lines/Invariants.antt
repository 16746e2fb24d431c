use Rattle.std.proofs.Common.{◌≡◌, drop}
use Rattle.doslink_words.specs.Places.{with_lines}
use Rattle.doslink_words.specs.Tokens.{texts}
use Rattle.doslink_words.specs.inside.Tokens.{all_placed}
use Rattle.doslink_words.proofs.directives.put_lines.Given as goal

abbrev pub invariant-loop-index : goal.invariant-loop-index
invariant-loop-index l =
    with_lines 0 (texts l.lines) (all_placed l.fn.tokens.items)
    ≡ with_lines l.index (drop l.index (texts l.lines)) (all_placed l.tokens.items)
