use Rattle.std.proofs.Common.{rules}
use Rattle.omf_record.proofs.fixups.reference_parts.Goals as goal

pub returns : goal.returns
returns c = search rules
