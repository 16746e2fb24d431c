use Rattle.std.proofs.Common.{rules, arith}
use Rattle.std.proofs.lemmas.Grind.{common_steps}
use Rattle.omf_frame.proofs.mem_source.MemSourceSource.read_some.Goals as goal

pub returns-clause-taken : goal.returns-clause-taken
returns-clause-taken c = grind (arith, common_steps)

pub returns-clause-fed : goal.returns-clause-fed
returns-clause-fed c = search rules
