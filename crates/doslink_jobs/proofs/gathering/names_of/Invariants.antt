use Rattle.std.proofs.Common.{map}
use Rattle.doslink_stock.specs.Seen.{handed_held}
use Rattle.doslink_jobs.specs.inside.Gathering.{AreNamed}
use Rattle.doslink_jobs.proofs.gathering.names_of.Given as goal

abbrev pub invariant-loop-each : goal.invariant-loop-each
invariant-loop-each g l = AreNamed (map handed_held l.fn.handed) l.libraries.items
