use Rattle.std.proofs.Common.{rules}
use Rattle.omf_record.proofs.segments.MarkHead.begins.Goals as goal

pub returns : goal.returns
returns c = search rules
