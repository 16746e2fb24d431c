-- What is written of a link.
use Rattle.std.specs.Prelude.{ℕ, List, MatchOption}
use Rattle.std.specs.declared.option.Option.{Option}
use Rattle.clap.specs.Words.{Text}
use Rattle.omf_module.specs.Module.{Module}
use Rattle.omf_place.specs.declared.names.Names.{Names}
use Rattle.omf_commands.specs.declared.linking.Report.{Report}
use Rattle.flat_file.specs.declared.fault.FormFault.{FormFault}
use Rattle.doslink_words.specs.declared.job.Form.{Form}
use Rattle.doslink_words.specs.declared.job.Job.{Job}
use Rattle.doslink_link.specs.Forms.{IsFormed, IsFormFault}
use Rattle.doslink_jobs.specs.Maps.{map_bytes}

-- The file OUT holds these bytes, and MAP, where a map is asked for, this text. `Writes` says that the file at a path
-- holds some bytes, and nothing else.
abbrev pub AreWritten : (Writes : (path bytes : List ℕ) → Type 0) → (out : Text) → (map : Option Text)
    → (file text : List ℕ) → Type 0
AreWritten Writes out map file text = Writes out file × MatchOption map (Unit {0}) (λ path. Writes path text)

-- Of modules that these inputs mean the program was written to the file OUT, in the form that a job says, and where a
-- map is asked for, the map of what was linked to the file MAP, in the form of maps that it says. A map that tells of
-- the inputs does so with these words.
pub record IsWritten (A : Type 0) (job : Job) (Writes : (path bytes : List ℕ) → Type 0) (out : Text)
    (map : Option Text) (names : Names) (inputs : List (List ℕ)) (meant : List Module) : Type 0 where
  pub report : Report A
  pub file : List ℕ
  pub words : List (List ℕ)
  pub formed : IsFormed job.form names meant report file
  pub written : AreWritten Writes out map file (map_bytes job.map_form report inputs words)

-- the program of modules has no file of the form that is said
abbrev pub HasFormFault : Option Form → Names → List Module → Type 0
HasFormFault form names modules = (fault : FormFault) × IsFormFault form names modules fault
