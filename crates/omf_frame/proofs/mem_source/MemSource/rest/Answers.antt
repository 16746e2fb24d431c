use Rattle.std.proofs.Common.{rules}
use Rattle.omf_frame.proofs.mem_source.MemSource.rest.Goals as goal

pub returns : goal.returns
returns c = search rules
