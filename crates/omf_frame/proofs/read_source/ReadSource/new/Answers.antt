use Rattle.std.proofs.Common.{refl}
use Rattle.omf_frame.proofs.read_source.ReadSource.new.Goals as goal

pub returns-clause-remaining : goal.returns-clause-remaining
returns-clause-remaining g c = refl
