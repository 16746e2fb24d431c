use Rattle.std.proofs.Common.{◌≡◌, ◌≤◌, map, fold, min, drop, All}
use Rattle.omf_image.specs.inside.Entries.{entries_from}
use Rattle.omf_image.specs.inside.Ready.{IsEntryReady}
use Rattle.flat_file.specs.Covered.{entry_first, first_covered}
use Rattle.flat_file.proofs.covered.first_among.Given as goal

abbrev pub invariant-loop-input : goal.invariant-loop-input
invariant-loop-input g l = record {
  ready : All (IsEntryReady l.layout) (entries_from l.input (drop l.input l.modules));
  below : l.first ≤ 1048576;
  first : fold min l.first (map (entry_first l.layout) (entries_from l.input (drop l.input l.modules)))
      ≡ first_covered l.layout l.modules;
}
