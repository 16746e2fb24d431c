-- Modules in memory, linked.
use Rattle.std.specs.Prelude.{ℕ, List, map, Ok, Err}
use Rattle.std.specs.declared.result.Result.{Result}
use Rattle.std.specs.Borrow.{Bor}
use Rattle.omf_module.specs.Module.{Module}
use Rattle.omf_place.specs.declared.names.Names.{Names}
use Rattle.mz.specs.File.{Mz}
use Rattle.omf_faults.specs.declared.fault.LinkFault.{LinkFault}
use Rattle.omf_faults.specs.declared.fault.LinkFault.TheVariants as link
use Rattle.omf_commands.specs.declared.linking.Report.{Report}
use Rattle.omf_commands.specs.Linking.{HoldsAtEachParagraph, IsModulesFault, IsReport}
use Rattle.doslink_link.specs.declared.linking.Linked.{Linked}

-- the bytes that slices stand for
abbrev pub bytes_of : List (Bor (List ℕ)) → List (List ℕ)
bytes_of slices = map (λ slice. slice.now) slices

-- no fault of placement, of data and fix-ups, of the start or of relocated words stands in modules
abbrev pub IsFaultless : (A : Type 0) → Names → List Module → Type 0
IsFaultless A names modules = (fault : LinkFault A) → IsModulesFault names modules fault → ⊥

-- What was linked are these modules, where they stand, and their program, whose file this is: it holds the program at
-- each paragraph.
pub record IsLinkedAs {A : Type 0} (names : Names) (modules : List Module) (report : Report A) (file : List ℕ)
    : Type 0 where
  pub reported : IsReport names modules report
  pub format : Mz report.program file
  pub holds : HoldsAtEachParagraph names modules file

-- What linking modules in memory answers: the program exactly where no fault stands in them, else the first, unless
-- there was no memory.
abbrev pub LinksTo : {A : Type 0} → Names → List Module → Result (Linked A) (LinkFault A) → Type 0
LinksTo {A} names modules (Ok linked) =
    IsFaultless A names modules × IsLinkedAs names modules linked.report linked.file.items
LinksTo names modules (Err link.Memory) = Unit {0}
LinksTo names modules (Err fault) = IsModulesFault names modules fault
