use Rattle.std.proofs.Common.{length}
use Rattle.doslink_jobs.proofs.places.+first_library.Given as goal

abbrev pub decreases-first_library : goal.decreases-first_library
decreases-first_library l = length l.inputs.now
