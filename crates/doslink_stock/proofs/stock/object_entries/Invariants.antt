use Rattle.std.proofs.Common.{◌-◌, length, ◌≡◌, ◌++◌, map, drop}
use Rattle.omf_search.specs.Results.{bytes_of}
use Rattle.doslink_stock.specs.Files.{objects_from}
use Rattle.doslink_stock.specs.Seen.{entry_held}
use Rattle.doslink_stock.proofs.stock.object_entries.Given as goal

abbrev pub invariant-loop-file : goal.invariant-loop-file
invariant-loop-file g l = map entry_held l.entries.items ++ objects_from l.file (bytes_of (drop l.file l.fn.files))
    ≡ objects_from l.fn.first (bytes_of (drop l.fn.first l.fn.files))

abbrev pub decreases-loop-file : goal.decreases-loop-file
decreases-loop-file g l = length l.fn.files - l.file
