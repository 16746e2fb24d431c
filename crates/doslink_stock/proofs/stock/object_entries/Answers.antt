use Rattle.std.proofs.Common.{◌∙◌, ap, map, arith, drop, sym}
use Rattle.omf_search.specs.Results.{bytes_of}
use Rattle.doslink_stock.specs.Files.{object_in, objects_from}
use Rattle.doslink_stock.specs.Seen.{entry_held}
use Rattle.doslink_stock.proofs.Walks.{objects_done, objects_more}
use Rattle.doslink_stock.proofs.stock.object_entries.Goals as goal

pub returns : goal.returns
returns g c = objects_done c.args.files.now c.loop-file.file (map entry_held c.loop-file.entries.items)
    (objects_from c.args.first (bytes_of (drop c.args.first c.args.files.now))) (omega arith) c.loop-file.invariant
