use Rattle.std.proofs.Common.{◌≡◌, map, take}
use Rattle.doslink_jobs.specs.Jobs.{sought_of}
use Rattle.doslink_jobs.proofs.gathering.all_sought.Given as goal

abbrev pub invariant-loop-input : goal.invariant-loop-input
invariant-loop-input g l = l.sought.items ≡ map sought_of (take l.input-index l.fn.inputs)
