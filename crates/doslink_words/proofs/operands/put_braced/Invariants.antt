use Rattle.std.proofs.Common.{◌≡◌, length}
use Rattle.doslink_words.specs.Directives.{with_braced}
use Rattle.doslink_words.specs.Tokens.{texts}
use Rattle.doslink_words.specs.inside.Tokens.{all_placed}
use Rattle.doslink_words.proofs.operands.put_braced.Given as goal

abbrev pub invariant-tokens : goal.invariant-tokens
invariant-tokens l =
    with_braced (texts l.fn.names.items) (all_placed l.fn.operands)
    ≡ with_braced (texts l.names.items) (all_placed l.rest)

abbrev pub decreases-tokens : goal.decreases-tokens
decreases-tokens l = length l.rest
