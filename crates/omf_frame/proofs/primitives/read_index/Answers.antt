use Rattle.std.proofs.Common.{rules}
use Rattle.omf_frame.proofs.primitives.read_index.Goals as goal

pub returns-in-len2-up : goal.returns-in-len2-up
returns-in-len2-up c = search rules
