use Rattle.std.proofs.Common.{rules}
use Rattle.omf_frame.proofs.mem_sink.MemSinkSink.failures.Goals as goal

pub returns : goal.returns
returns c = search rules
