-- What linking modules that were read answers.
use Rattle.std.specs.Prelude.{ℕ, List, Ok, Err}
use Rattle.std.specs.declared.option.Option.{Option}
use Rattle.std.specs.declared.result.Result.{Result}
use Rattle.std.specs.Io.KnownBytes.{Appends, Keeps}
use Rattle.omf_frame.specs.Device.{AppendsFront}
use Rattle.omf_module.specs.Module.{Module}
use Rattle.omf_place.specs.declared.names.Names.{Names}
use Rattle.mz.specs.File.{Mz}
use Rattle.omf_faults.specs.declared.fault.LinkFault.{LinkFault}
use Rattle.omf_faults.specs.declared.fault.LinkFault.TheVariants as link
use Rattle.omf_commands.specs.declared.linking.Report.{Report}
use Rattle.omf_commands.specs.Linking.{HoldsAtEachParagraph, IsFileOf, IsModulesFault, IsReport}

-- What is answered, and what is told of the sink before and after: the file of the program, which holds it at each
-- paragraph; where the sink failed a front of the file; after a refusal nothing.
abbrev pub LinksModules : {A : Type 0} → Names → List Module → (wold wnew : Option (List ℕ))
    → Result (Report A) (LinkFault A) → Type 0
LinksModules names modules wold wnew (Ok report) =
    IsReport names modules report
    × ((file : List ℕ) × Mz report.program file × Appends wold wnew file × HoldsAtEachParagraph names modules file)
LinksModules names modules wold wnew (Err link.Output) =
    (file : List ℕ) × IsFileOf names modules file × AppendsFront wold wnew file
LinksModules names modules wold wnew (Err link.Memory) = Keeps wold wnew
LinksModules names modules wold wnew (Err fault) = IsModulesFault names modules fault × Keeps wold wnew
