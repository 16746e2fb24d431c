use Rattle.std.proofs.Common.{◌≡◌, ◌≤◌, map, fold, min, drop}
use Rattle.omf_image.specs.inside.Entries.{module_entries}
use Rattle.flat_file.specs.Covered.{entry_first}
use Rattle.flat_file.proofs.covered.first_with.Given as goal

abbrev pub invariant-loop-index : goal.invariant-loop-index
invariant-loop-index g l = record {
  below : l.first ≤ 1048576;
  first : fold min l.first (map (entry_first l.layout) (drop l.index (module_entries l.input l.module)))
      ≡ fold min l.fn.least (map (entry_first l.layout) (module_entries l.input l.module));
}
