use Rattle.std.proofs.Common.{◌≡◌, ◌+◌, length}
use Rattle.doslink_words.specs.Operands.{operand_count, operands_from}
use Rattle.doslink_words.specs.inside.Tokens.{operands}
use Rattle.doslink_words.proofs.grammar.operand_count.Given as goal

abbrev pub invariant-tokens : goal.invariant-tokens
invariant-tokens l = record {
  same : operand_count l.directive (operands l.fn.tokens)
      ≡ l.count + operands_from l.directive l.sure (operands l.rest);
  together : l.count + length l.rest ≡ length l.fn.tokens;
}

abbrev pub decreases-tokens : goal.decreases-tokens
decreases-tokens l = length l.rest
