use Rattle.std.proofs.Common.{◌≡◌, drop, slice_get}
use Rattle.std.specs.List.{filter_map}
use Rattle.omf_image.specs.Overflow.{entry_overflow}
use Rattle.omf_image.specs.inside.Entries.{module_entries}
use Rattle.omf_image.proofs.overflow.overflow_in.Given as goal

abbrev pub invariant-loop-index : goal.invariant-loop-index
invariant-loop-index g l =
    slice_get (filter_map (entry_overflow l.layout) (drop l.index (module_entries l.input l.module))) 0
    ≡ slice_get (filter_map (entry_overflow l.layout) (module_entries l.input l.module)) 0
