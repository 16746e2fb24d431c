use Rattle.std.proofs.Common.{◌≡◌, map, fold, max, drop}
use Rattle.omf_image.specs.Records.{entry_end}
use Rattle.omf_image.specs.inside.Entries.{module_entries}
use Rattle.omf_image.proofs.extent.end_with.Given as goal

abbrev pub invariant-loop-index : goal.invariant-loop-index
invariant-loop-index g l =
    fold max l.end (map (entry_end l.layout) (drop l.index (module_entries l.input l.module)))
    ≡ fold max l.fn.end (map (entry_end l.layout) (module_entries l.input l.module))
