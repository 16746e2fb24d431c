use Rattle.std.proofs.Common.{refl}
use Rattle.omf_frame.proofs.write_sink.WriteSinkSink.failures.Goals as goal

pub returns : goal.returns
returns g c = refl
