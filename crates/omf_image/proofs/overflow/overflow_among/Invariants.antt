use Rattle.std.proofs.Common.{◌≡◌, drop, slice_get, All}
use Rattle.std.specs.List.{filter_map}
use Rattle.omf_image.specs.Overflow.{entry_overflow, first_overflow}
use Rattle.omf_image.specs.inside.Entries.{entries_from}
use Rattle.omf_image.specs.inside.Ready.{IsEntryReady}
use Rattle.omf_image.proofs.overflow.overflow_among.Given as goal

abbrev pub invariant-loop-input : goal.invariant-loop-input
invariant-loop-input g l = record {
  ready : All (IsEntryReady l.layout) (entries_from l.input (drop l.input l.modules));
  first : slice_get (filter_map (entry_overflow l.layout) (entries_from l.input (drop l.input l.modules))) 0
      ≡ first_overflow l.layout l.modules;
}
