use Rattle.std.proofs.Common.{refl}
use Rattle.omf_files.proofs.files.BufferedSink.new.Goals as goal

pub returns-in-Ok-clause-failures : goal.returns-in-Ok-clause-failures
returns-in-Ok-clause-failures g c = refl
