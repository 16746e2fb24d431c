use Rattle.std.proofs.Common.{length}
use Rattle.doslink_asked.proofs.paths.+first_file.Given as goal

abbrev pub decreases-first_file : goal.decreases-first_file
decreases-first_file l = length l.inputs.now
