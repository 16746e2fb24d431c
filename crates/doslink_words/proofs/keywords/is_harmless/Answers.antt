use Rattle.std.proofs.Common.{rules, tests}
use Rattle.doslink_words.proofs.keywords.is_harmless.Goals as goal

pub returns-then-is_short-9 : goal.returns-then-is_short-9
returns-then-is_short-9 c = search (tests, rules)

pub returns-else-is_short-9 : goal.returns-else-is_short-9
returns-else-is_short-9 c = search (tests, rules)
