use Rattle.std.proofs.Common.{rules}
use Rattle.omf_files.proofs.files.BufferedSink.flush.Goals as goal

pub returns-clause-all : goal.returns-clause-all
returns-clause-all g c = search rules
