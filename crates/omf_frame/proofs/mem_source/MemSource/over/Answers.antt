use Rattle.std.proofs.Common.{refl}
use Rattle.omf_frame.proofs.mem_source.MemSource.over.Goals as goal

pub returns : goal.returns
returns c = refl
