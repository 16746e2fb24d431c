use Rattle.std.proofs.Common.{refl}
use Rattle.omf_frame.proofs.frame.Frame.new.Goals as goal

pub returns-clause-place : goal.returns-clause-place
returns-clause-place c = refl
