-- What a job has done where it ends well, and how a run ends. `told` are the bytes of files by their paths, where the
-- world tells them.
use Rattle.std.specs.Prelude.{◌≡◌, ◌⊎◌, ◌-◌, ℕ, Bool, false, All, List, [], ◌∷◌, ◌++◌, codes, drop, length, map, take}
use Rattle.std.specs.Prelude.{if◌then◌else◌}
use Rattle.std.specs.declared.option.Option.{Option}
use Rattle.std.specs.declared.result.Result.{Result}
use Rattle.std.specs.List.{Contains, list_any}
use Rattle.std.specs.Option.{option_to_list}
use Rattle.clap.specs.Words.{Text}
use Rattle.omf_frame.specs.declared.device.IoFault.{IoFault}
use Rattle.omf_frame.specs.Device.{Writes}
use Rattle.omf_place.specs.declared.names.Names.{Names}
use Rattle.omf_communal.specs.Deciding.{Variable}
use Rattle.omf_module.specs.Module as omf
use Rattle.omf_plain.specs.declared.widths.Widths.{Widths}
use Rattle.doslink_words.specs.declared.job.Job.{Job}
use Rattle.doslink_words.specs.declared.job.Input.{Input}
use Rattle.doslink_words.specs.declared.job.Input.TheVariants as input
use Rattle.doslink_words.specs.Keywords.{is_keyword}
use Rattle.doslink_words.specs.Tokens.{texts}
use Rattle.doslink_stock.specs.Search.{Takes}
use Rattle.doslink_stock.specs.Files.{Held, needs}
use Rattle.doslink_telling.specs.Missing.{unmet, wants_marks}
use Rattle.doslink_passes.specs.Chain.{AreModulesOf}
use Rattle.doslink_passes.specs.Communals.{AreVariablesOf}
use Rattle.doslink_passes.specs.Names.{said_names}
use Rattle.doslink_passes.specs.Request.{names_of}
use Rattle.doslink_jobs.specs.Places.{map_path, out_path}
use Rattle.doslink_jobs.specs.Written.{IsWritten}
use Rattle.doslink_link.specs.Linking.{IsFaultless}
use Rattle.doslink_files.specs.declared.reading.Sought.{Sought}
use Rattle.doslink_files.specs.declared.reading.Sought.TheVariants as sought
use Rattle.doslink_files.specs.Files.{AreSought, IsFound}

-- ---- the modules of a link

-- A link was done of the modules that it takes: none of their names is missing, and the modules that are linked for
-- them have no fault. `Written` says of these, and of the bytes that they come from, that their program was written.
pub record IsLinkOf (A : Type 0) (job : Job) (Written : (sources : List (List ℕ)) → List omf.Module → Type 0)
    (takes : List Held → Type 0) : Type 0 where
  pub modules : List Held
  pub variables : List Variable
  pub widths : List Widths
  pub sources : List (List ℕ)
  pub linked : List omf.Module
  pub taken : takes modules
  pub are_variables : AreVariablesOf (names_of job.ignore_case) modules variables
  pub met : unmet (names_of job.ignore_case) (map needs modules) ≡ []
  pub are_linked : AreModulesOf job (map needs modules) (wants_marks (names_of job.ignore_case) (map needs modules))
      modules variables widths sources linked
  pub faultless : IsFaultless A (names_of job.ignore_case) linked
  pub written : Written sources linked

-- ---- a job

-- what a job names, as it is sought: the module at a path, or a library that is looked up
abbrev pub sought_of : Input → Sought
sought_of (input.File path) = sought.File path
sought_of (input.Library name) = sought.Library name

-- the folders in which a job's libraries are looked up: its own, and behind them others, the environment's
abbrev pub library_folders : (folders : List Text) → Job → List Text
library_folders folders job = texts job.folders.items ++ folders

-- the file with the module of what a job says of names, where it says something
abbrev pub names_files : Job → List (List ℕ)
names_files job = option_to_list (said_names job)

-- these are the files that are given to the link: those that a job names, but for libraries that stand there already,
-- and behind them the one of what it says of names
abbrev pub AreGiven : (told : Text → Option (List ℕ)) → (folders : List Text) → Job → (given : List (List ℕ)) → Type 0
AreGiven told folders job given =
    (files : List (List ℕ))
    × AreSought told (texts job.object_folders.items) (library_folders folders job) (map sought_of job.inputs.items)
    files
    × (given ≡ files ++ names_files job)

-- one of these modules names this default library
abbrev pub IsNamedBy : (modules : List Held) → (name : List ℕ) → Type 0
IsNamedBy modules name = (m : Held) × Contains modules m × Contains m.libraries name

-- the name of a library without `.LIB` at its end, in whatever case that stands there
abbrev pub library_stem : (name : Text) → Text
library_stem name =
    let front = length name - 4 in
    if is_keyword (drop front name) (codes ".LIB") then take front name else name

-- a library is one of those that are left out, by its name: without regard to case, with `.LIB` or without
abbrev pub is_left_out : (left_out : List Text) → (name : Text) → Bool
is_left_out left_out name = list_any (λ other. is_keyword (library_stem other) (library_stem name)) left_out

-- one of these modules names this default library, and it isn't left out
abbrev pub IsAskedBy : (left_out : List Text) → (modules : List Held) → (name : List ℕ) → Type 0
IsAskedBy left_out modules name = IsNamedBy modules name × (is_left_out left_out name ≡ false)

-- these are the bytes of a library that was looked up by a name that one of these modules asks for
abbrev pub IsDefault : (told : Text → Option (List ℕ)) → (folders left_out : List Text) → (modules : List Held)
    → (bytes : List ℕ) → Type 0
IsDefault told folders left_out modules bytes =
    (name path : Text) × IsFound told folders name path bytes × IsAskedBy left_out modules name

-- these are default libraries that go behind the files of some rounds: the modules that a link takes of those ask for
-- them
abbrev pub AreDefaults : (told : Text → Option (List ℕ)) → (folders left_out : List Text) → Names
    → (rounds : List (List (List ℕ))) → (files : List (List ℕ)) → Type 0
AreDefaults told folders left_out names rounds files =
    (modules : List Held) × Takes names rounds modules × All (IsDefault told folders left_out modules) files

-- so is each further round, behind those before it
abbrev pub AreRounds : (told : Text → Option (List ℕ)) → (folders left_out : List Text) → Names
    → (before rounds : List (List (List ℕ))) → Type 0
AreRounds told folders left_out names before [] = Unit {0}
AreRounds told folders left_out names before (files ∷ rounds) =
    AreDefaults told folders left_out names before files
    × AreRounds told folders left_out names (before ++ files ∷ []) rounds

-- These are the files of a job, in the rounds in which they are searched: those that are given, and then default
-- libraries, where it asks for these, but for those that it leaves out.
pub record AreFilesOf (told : Text → Option (List ℕ)) (folders : List Text) (job : Job)
    (rounds : List (List (List ℕ))) : Type 0 where
  pub given : List (List ℕ)
  pub defaults : List (List (List ℕ))
  pub are_given : AreGiven told folders job given
  pub are_defaults : AreRounds told (library_folders folders job) (texts job.left_out.items)
      (names_of job.ignore_case)
      (given ∷ []) defaults
  pub none : job.default_libraries ≡ false → defaults ≡ []
  pub together : rounds ≡ given ∷ defaults

-- A job was done: its files were read and linked, and the program and its map stand where the job says. `Writes` says
-- that the file at a path holds some bytes.
abbrev pub IsDone : (A : Type 0) → (told : Text → Option (List ℕ)) → (Writes : (path bytes : List ℕ) → Type 0)
    → (folders : List Text) → Job → Type 0
IsDone A told Writes folders job =
    (rounds : List (List (List ℕ))) × AreFilesOf told folders job rounds
    × IsLinkOf A job (IsWritten A job Writes (out_path job) (map_path job) (names_of job.ignore_case))
    (Takes (names_of job.ignore_case) rounds)

-- ---- a run

-- this was written to a sink, or a front of it where the sink failed
abbrev pub Tells : {K : Type 0} → (written : K → Option (List ℕ)) → (failures : K → ℕ) → (old new : K) → List ℕ
    → Type 0
Tells written failures old new text = (r : Result (Unit {0}) IoFault) × Writes written failures old new text r

-- A run has told a text, and ends with status 0 only where something was done, with 1 only where something was refused
-- since an input is at fault, with 2 only where words are wrong, and with 3 where a file, a device or memory failed.
abbrev pub EndsWith : (Done Refused Wrong : Type 0) → (tells : List ℕ → Type 0) → (status : ℕ) → Type 0
EndsWith Done Refused Wrong tells status =
    ((text : List ℕ) × tells text)
    × (((status ≡ 0) × Done) ⊎ (((status ≡ 1) × Refused) ⊎ (((status ≡ 2) × Wrong) ⊎ (status ≡ 3))))
