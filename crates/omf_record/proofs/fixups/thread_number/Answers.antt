use Rattle.std.proofs.Common.{rules}
use Rattle.omf_record.proofs.fixups.thread_number.Goals as goal

pub returns-in-Three-clause-number : goal.returns-in-Three-clause-number
returns-in-Three-clause-number c = search rules
