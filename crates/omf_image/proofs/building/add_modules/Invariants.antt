use Rattle.std.proofs.Common.{drop, All}
use Rattle.omf_image.specs.Records.{entries}
use Rattle.omf_image.specs.inside.Entries.{entries_from}
use Rattle.omf_image.specs.inside.Ready.{IsEntryReady}
use Rattle.omf_image.specs.inside.States.{state}
use Rattle.omf_image.specs.inside.Leading.{IsWhole, Leads}
use Rattle.omf_image.proofs.building.add_modules.Given as goal

abbrev pub invariant-loop-input : goal.invariant-loop-input
invariant-loop-input g l = record {
  whole : IsWhole l.layout (state l.work);
  ready : All (IsEntryReady l.layout) (entries_from l.input (drop l.input l.modules));
  gives : Leads l.layout l.modules (state l.initial.work) (entries l.modules)
      → Leads l.layout l.modules (state l.work) (entries_from l.input (drop l.input l.modules));
}
