use Rattle.std.proofs.Common.{◌≡◌, length}
use Rattle.std.specs.Slice.Iter.{iter_rest}
use Rattle.doslink_words.specs.Directives.{with_items}
use Rattle.doslink_words.specs.Said.{items_of}
use Rattle.doslink_words.specs.inside.Tokens.{all_placed}
use Rattle.doslink_words.proofs.operands.put_items.Given as goal

abbrev pub invariant-loop-keyword : goal.invariant-loop-keyword
invariant-loop-keyword l =
    with_items (items_of l.fn.items.items) (all_placed l.fn.operands)
    ≡ with_items (items_of l.items.items) (all_placed (iter_rest l.tokens))

abbrev pub decreases-loop-keyword : goal.decreases-loop-keyword
decreases-loop-keyword l = length (iter_rest l.tokens)
