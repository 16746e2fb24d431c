use Rattle.std.proofs.Common.{◌≡◌, length}
use Rattle.doslink_words.specs.Directives.{tokens_meaning}
use Rattle.doslink_words.specs.Said.{said_of}
use Rattle.doslink_words.specs.inside.Tokens.{all_placed}
use Rattle.doslink_words.proofs.directives.follow_tokens.Given as goal

abbrev pub invariant-tokens : goal.invariant-tokens
invariant-tokens l =
    tokens_meaning 0 (all_placed l.fn.tokens) (said_of l.fn.directives)
    ≡ tokens_meaning 0 (all_placed l.rest) (said_of l.directives)

abbrev pub decreases-tokens : goal.decreases-tokens
decreases-tokens l = length l.rest
