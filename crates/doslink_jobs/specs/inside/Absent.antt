-- The warning of default libraries that aren't found (docs/DOSLINK.md, "Default libraries").
use Rattle.std.specs.Prelude.{◌≡◌, ◌&&◌, ℕ, All, Bool, false, not, if◌then◌else◌, List, [], ◌∷◌, ◌++◌, map}
use Rattle.std.specs.Prelude.{string_bytes}
use Rattle.std.specs.declared.option.Option.{Option}
use Rattle.std.specs.List.{flat_map}
use Rattle.clap.specs.Words.{Text}
use Rattle.omf_place.specs.declared.names.Names.{Names}
use Rattle.doslink_files.specs.Files.{IsFound}
use Rattle.doslink_files.specs.declared.lookup.Found.{Found}
use Rattle.doslink_files.specs.declared.lookup.Found.TheVariants as found
use Rattle.doslink_stock.specs.Files.{Held}
use Rattle.doslink_stock.specs.Search.{Takes}
use Rattle.doslink_stock.specs.Searched.{Searched}
use Rattle.doslink_telling.specs.Lines.{absent_line}
use Rattle.doslink_words.specs.declared.job.Job.{Job}
use Rattle.doslink_words.specs.Tokens.{texts}
use Rattle.doslink_jobs.specs.declared.gathering.DefaultLibrary.{DefaultLibrary}
use Rattle.doslink_jobs.specs.declared.gathering.Gathered.{Gathered}
use Rattle.doslink_passes.specs.Request.{names_of}
use Rattle.doslink_jobs.specs.Jobs.{AreGiven, IsAskedBy, library_folders}
use Rattle.doslink_jobs.specs.inside.Gathering.{Holds}
use Rattle.doslink_telling.specs.Missing.{told_lines}

-- ---- the lines

-- a default library that is asked for: its name, and the word for the module that names it
pub record Library : Type 0 where
  pub name : List ℕ
  pub word : List ℕ

abbrev pub library_said : {A : Type 0} → DefaultLibrary A → Library
library_said l = record { name = l.name.now; word = l.word.items }

-- the warning that it wasn't found
abbrev pub absent_warning : Library → List ℕ
absent_warning l = absent_line l.name l.word

-- a warning for each of them, or for each of the first and how many more there are; none where the job is to be quiet
-- and the files could be gathered
abbrev pub absent_warnings : Job → (failed : Bool) → List Library → List ℕ
absent_warnings job failed absent =
    if job.quiet && not failed then [] else told_lines absent_warning absent job.verbose

-- ---- which these are

-- what comes of a library that is looked up: a file of these bytes at a path, a file that is there already, or none
pub data Outcome : Type 0 where
  New : (path bytes : List ℕ) → Outcome
  Known : Outcome
  Absent : Outcome

abbrev pub outcome_of : {A : Type 0} → Found A → Outcome
outcome_of (found.New file) = New (string_bytes file.path) file.bytes.items
outcome_of found.Known = Known

-- a library that was looked up, and what came of it
pub record Lookup : Type 0 where
  pub library : Library
  pub outcome : Outcome

-- the bytes of a file that is new
abbrev pub new_bytes : Outcome → List (List ℕ)
new_bytes (New path bytes) = bytes ∷ []
new_bytes Known = []
new_bytes Absent = []

-- a library that isn't found
abbrev pub absent_one : Library → Outcome → List Library
absent_one library (New path bytes) = []
absent_one library Known = []
absent_one library Absent = library ∷ []

abbrev pub new_files : List Lookup → List (List ℕ)
new_files lookups = flat_map (λ l. new_bytes l.outcome) lookups

abbrev pub absent_libraries : List Lookup → List Library
absent_libraries lookups = flat_map (λ l. absent_one l.library l.outcome) lookups

-- what was found is the library of the name, looked up in this folder and in the others
abbrev pub IsOutcome : (told : Text → Option (List ℕ)) → (folders : List Text) → (name : Text) → Outcome → Type 0
IsOutcome told folders name (New path bytes) = IsFound told folders name path bytes
IsOutcome told folders name Known = Unit {0}
IsOutcome told folders name Absent = Unit {0}

-- the libraries were looked up, in their order: those that are new are the files, and those that aren't found stand
-- behind the absent ones that there were
pub record AreLookedUp (told : Text → Option (List ℕ)) (folders : List Text) (libraries : List Library)
    (files : List (List ℕ)) (old new : List Library) : Type 0 where
  pub lookups : List Lookup
  pub libraries_are : map (λ l. l.library) lookups ≡ libraries
  pub are_found : All (λ l. IsOutcome told folders l.library.name l.outcome) lookups
  pub files_are : files ≡ new_files lookups
  pub absent_are : new ≡ old ++ absent_libraries lookups

-- rounds, and behind them the files of one more where it has some
abbrev pub with_round : (rounds : List (List (List ℕ))) → (files : List (List ℕ)) → List (List (List ℕ))
with_round rounds [] = rounds
with_round rounds (bytes ∷ files) = rounds ++ (bytes ∷ files) ∷ []

-- the rounds with all that were new
abbrev pub all_rounds : (rounds : List (List (List ℕ))) → List (List Lookup) → List (List (List ℕ))
all_rounds rounds [] = rounds
all_rounds rounds (lookups ∷ more) = all_rounds (with_round rounds (new_files lookups)) more

module _ (told : Text → Option (List ℕ)) (folders left_out : List Text) (names : Names) where
  -- modules that a link takes of these rounds ask for the libraries that are looked up
  abbrev pub AreRoundLookups : (rounds : List (List (List ℕ))) → List Lookup → Type 0
  AreRoundLookups rounds lookups =
      (modules : List Held) × Takes names rounds modules
      × All (λ l. IsAskedBy left_out modules l.name) (map (λ l. l.library) lookups)
      × All (λ l. IsOutcome told folders l.library.name l.outcome) lookups

  -- libraries are looked up behind these rounds, and behind each round of those that are new
  abbrev pub AreAllLookups : (rounds : List (List (List ℕ))) → List (List Lookup) → Type 0
  AreAllLookups rounds [] = Unit {0}
  AreAllLookups rounds (lookups ∷ more) =
      AreRoundLookups rounds lookups × AreAllLookups (with_round rounds (new_files lookups)) more

-- those of all rounds that aren't found
abbrev pub all_absent : List (List Lookup) → List Library
all_absent rounds = flat_map absent_libraries rounds

-- rounds of default libraries were looked up and searched behind others, and those that aren't found stand behind the
-- absent ones that there were
pub record AreAbsentBehind {A : Type 0} (told : Text → Option (List ℕ)) (folders left_out : List Text) (names : Names)
    (before : List (List (List ℕ))) (gathered : Gathered A) (old new : List Library) : Type 0 where
  pub lookups : List (List Lookup)
  pub are_lookups : AreAllLookups told folders left_out names before lookups
  pub holds : Holds names (all_rounds before lookups) gathered
  pub absent_are : new ≡ old ++ all_absent lookups

-- Of the files that a job names, and then default libraries, where it asks for these, those that aren't found were
-- warned of: they are looked up in rounds.
pub record AreAbsentTold {A : Type 0} (told : Text → Option (List ℕ)) (folders : List Text) (job : Job)
    (gathered : Gathered A) (old new : List ℕ) : Type 0 where
  pub given : List (List ℕ)
  pub lookups : List (List Lookup)
  pub are_given : AreGiven told folders job given
  pub are_lookups : AreAllLookups told (library_folders folders job) (texts job.left_out.items)
      (names_of job.ignore_case)
      (given ∷ []) lookups
  pub none : job.default_libraries ≡ false → lookups ≡ []
  pub searched : Searched (names_of job.ignore_case) (all_rounds (given ∷ []) lookups) gathered.stock
  pub warned : new ≡ old ++ absent_warnings job false (all_absent lookups)
