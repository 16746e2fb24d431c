-- What linking modules in memory answers.
use Rattle.std.proofs.Common.{◌≡◌, ℕ, List, [], ◌++◌, Ok, Err, Some, ap, sym, subst, ◌∙◌}
use Rattle.std.specs.declared.option.Option.{Option}
use Rattle.omf_module.specs.Module.{Module}
use Rattle.omf_place.specs.declared.names.Names.{Names}
use Rattle.mz.specs.File.{Mz}
use Rattle.omf_faults.specs.declared.fault.LinkFault.{LinkFault}
use Rattle.omf_faults.specs.declared.fault.LinkFault.TheVariants as link
use Rattle.omf_commands.specs.declared.linking.Report.{Report}
use Rattle.omf_commands.specs.Linking.{HoldsAtEachParagraph}
use Rattle.omf_commands.specs.Modules.{LinksModules}
use Rattle.omf_commands.proofs.Exclusive.{exclusive}
use Rattle.doslink_link.specs.Linking.{IsFaultless, IsLinkedAs, LinksTo}

module _ {A : Type 0} (names : Names) (modules : List Module) where
  -- a file that is all that was written is that of the program
  pub linked_as : (old new : List ℕ) (report : Report A) → old ≡ []
      → LinksModules names modules (Some old) (Some new) (Ok report) → IsLinkedAs names modules report new
  linked_as old new report none (is, (file, format, appended, holds)) =
      let same : new ≡ file = appended ∙ ap (λ l. l ++ file) none in record {
        reported = is;
        format = subst (Mz report.program) (sym same) format;
        holds = subst (HoldsAtEachParagraph names modules) (sym same) holds;
      }

  -- modules that have a program have no fault
  pub faultless : (old new : Option (List ℕ)) (report : Report A)
      → LinksModules names modules old new (Ok report) → IsFaultless A names modules
  faultless old new report (is, (file, format, appended, holds)) fault stands =
      exclusive names modules file fault (report.layout, report.program, is.linked, format) stands

  -- a fault is the answer of whatever was to be linked
  pub same_fault : (old new : Option (List ℕ)) (fault : LinkFault A)
      → (fault ≡ link.Output → ⊥) → LinksModules names modules old new (Err fault)
      → LinksTo names modules (Err fault)
  same_fault old new link.Output other links = absurd (other cc)
  same_fault old new link.Memory other links = tt
  same_fault old new (link.Device input place) other links = links.0
  same_fault old new (link.Record input place fault) other links = links.0
  same_fault old new (link.Program fault) other links = links.0
  same_fault old new (link.File fault) other links = links.0
