use Rattle.std.proofs.Common.{rules}
use Rattle.omf_record.proofs.blocks.BlockFieldField.read.Goals as goal

pub returns : goal.returns
returns g c = search rules
