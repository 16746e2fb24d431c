use Rattle.std.proofs.Common.{map, take}
use Rattle.doslib_words.specs.Words.{texts}
use Rattle.doslib_jobs.specs.inside.Libraries.{HasTaken, source_said}
use Rattle.doslib_jobs.proofs.taking.take_files.Given as goal

abbrev pub invariant-loop-path : goal.invariant-loop-path
invariant-loop-path g l =
    HasTaken (g.W.World.bytes l.world) (texts (take l.path-index l.paths)) (map source_said l.taken.items)
    l.outcome.lines.items l.outcome.status
