-- The steps of a link: placing and building what was read.
use Rattle.std.specs.Prelude.{List, Ok, Err}
use Rattle.std.specs.declared.result.Result.{Result}
use Rattle.omf_module.specs.Module.{Module}
use Rattle.omf_place.specs.declared.names.Names.{Names}
use Rattle.omf_faults.specs.declared.fault.LinkFault.{LinkFault}
use Rattle.omf_faults.specs.declared.fault.LinkFault.TheVariants as link
use Rattle.omf_commands.specs.declared.linking.Report.{Report}
use Rattle.omf_commands.specs.Linking.{IsModulesFault, IsReport}

-- what placing modules and building their program answers
abbrev pub BuildsModules : {A : Type 0} → Names → List Module → Result (Report A) (LinkFault A) → Type 0
BuildsModules names modules (Ok report) = IsReport names modules report
BuildsModules names modules (Err link.Memory) = Unit {0}
BuildsModules names modules (Err fault) = IsModulesFault names modules fault
