use Rattle.std.proofs.Common.{rules}
use Rattle.omf_record.proofs.fixups.end_of.Goals as goal

pub returns : goal.returns
returns c = search rules
