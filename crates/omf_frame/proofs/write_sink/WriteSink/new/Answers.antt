use Rattle.std.proofs.Common.{refl}
use Rattle.omf_frame.proofs.write_sink.WriteSink.new.Goals as goal

pub returns-clause-failures : goal.returns-clause-failures
returns-clause-failures g c = refl
