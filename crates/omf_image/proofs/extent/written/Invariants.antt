use Rattle.std.proofs.Common.{◌≡◌, map, fold, max, drop, All}
use Rattle.omf_image.specs.Records.{entry_end, written}
use Rattle.omf_image.specs.inside.Entries.{entries_from}
use Rattle.omf_image.specs.inside.Ready.{IsEntryReady}
use Rattle.omf_image.proofs.extent.written.Given as goal

abbrev pub invariant-loop-input : goal.invariant-loop-input
invariant-loop-input g l = record {
  ready : All (IsEntryReady l.layout) (entries_from l.input (drop l.input l.modules));
  end : fold max l.end (map (entry_end l.layout) (entries_from l.input (drop l.input l.modules)))
      ≡ written l.layout l.modules;
}
