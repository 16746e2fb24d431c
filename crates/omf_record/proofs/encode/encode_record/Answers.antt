use Rattle.std.proofs.Common.{rules}
use Rattle.omf_record.proofs.encode.encode_record.Goals as goal

pub returns-clause-err : goal.returns-clause-err
returns-clause-err g c = search rules
