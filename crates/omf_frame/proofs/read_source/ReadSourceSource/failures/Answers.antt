use Rattle.std.proofs.Common.{refl}
use Rattle.omf_frame.proofs.read_source.ReadSourceSource.failures.Goals as goal

pub returns : goal.returns
returns g c = refl
