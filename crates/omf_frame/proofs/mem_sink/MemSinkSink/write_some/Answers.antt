use Rattle.std.proofs.Common.{rules}
use Rattle.omf_frame.proofs.mem_sink.MemSinkSink.write_some.Goals as goal

pub returns-then-not-is_empty-clause-count : goal.returns-then-not-is_empty-clause-count
returns-then-not-is_empty-clause-count c = search rules

pub returns-then-not-is_empty-clause-noted : goal.returns-then-not-is_empty-clause-noted
returns-then-not-is_empty-clause-noted c = search rules
