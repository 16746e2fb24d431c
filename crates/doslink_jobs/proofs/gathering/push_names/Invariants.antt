use Rattle.std.specs.List.{Contains}
use Rattle.std.proofs.Common.{List}
use Rattle.doslink_stock.specs.Files.{Held}
use Rattle.doslink_stock.specs.Seen.{handed_held}
use Rattle.doslink_jobs.specs.inside.Gathering.{AreNamed}
use Rattle.doslink_jobs.proofs.gathering.push_names.Given as goal

abbrev pub invariant-loop-name : goal.invariant-loop-name
invariant-loop-name g l =
    (modules : List Held) → Contains modules (handed_held l.fn.handed)
    → AreNamed modules l.initial.libraries.items → AreNamed modules l.libraries.items
