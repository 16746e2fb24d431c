use Rattle.std.proofs.Common.{arith}
use Rattle.std.proofs.lemmas.Grind.{common_steps}
use Rattle.doslink_words.proofs.directives.follow_order.Goals as goal

pub returns-in_ok-put_items-in-len1-up : goal.returns-in_ok-put_items-in-len1-up
returns-in_ok-put_items-in-len1-up c = grind (arith, common_steps)

pub returns-in_err-put_items-in-len1-up : goal.returns-in_err-put_items-in-len1-up
returns-in_err-put_items-in-len1-up c = grind (arith, common_steps)

pub returns-in-empty : goal.returns-in-empty
returns-in-empty c = grind (arith, common_steps)

pub returns-in-len1-up-2 : goal.returns-in-len1-up-2
returns-in-len1-up-2 c = grind (arith, common_steps)
