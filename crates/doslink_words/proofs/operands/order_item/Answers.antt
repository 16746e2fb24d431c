use Rattle.std.proofs.Common.{rules}
use Rattle.doslink_words.proofs.operands.order_item.Goals as goal

pub returns-then-is_word-2 : goal.returns-then-is_word-2
returns-then-is_word-2 c = search rules
