use Rattle.std.proofs.Common.{rules}
use Rattle.omf_frame.proofs.primitives.put_index.Goals as goal

pub returns-in_ok-push-clause-appended : goal.returns-in_ok-push-clause-appended
returns-in_ok-push-clause-appended g c = search rules
