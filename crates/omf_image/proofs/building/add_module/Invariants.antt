use Rattle.std.proofs.Common.{◌++◌, List, drop}
use Rattle.omf_module.specs.Module.{Module}
use Rattle.omf_image.specs.inside.Entries.{DataEntry, module_entries}
use Rattle.omf_image.specs.inside.States.{state}
use Rattle.omf_image.specs.inside.Leading.{IsWhole, Leads}
use Rattle.omf_image.proofs.building.add_module.Given as goal

abbrev pub invariant-loop-index : goal.invariant-loop-index
invariant-loop-index g l = record {
  whole : IsWhole l.layout (state l.work);
  gives : (modules : List Module) (rest : List DataEntry)
      → Leads l.layout modules (state l.initial.work) (module_entries l.input l.module ++ rest)
      → Leads l.layout modules (state l.work) (drop l.index (module_entries l.input l.module) ++ rest);
}
