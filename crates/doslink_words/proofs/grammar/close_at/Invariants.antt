use Rattle.std.proofs.Common.{◌≡◌, ◌+◌, length}
use Rattle.std.specs.List.{position_or_len}
use Rattle.doslink_words.specs.Operands.{is_close}
use Rattle.doslink_words.specs.inside.Tokens.{operands}
use Rattle.doslink_words.proofs.grammar.close_at.Given as goal

abbrev pub invariant-tokens : goal.invariant-tokens
invariant-tokens l = record {
  same : position_or_len is_close (operands l.fn.tokens) ≡ l.count + position_or_len is_close (operands l.rest);
  together : l.count + length l.rest ≡ length l.fn.tokens;
}

abbrev pub decreases-tokens : goal.decreases-tokens
decreases-tokens l = length l.rest
