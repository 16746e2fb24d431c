-- Why the files of a job can't be linked: one of these holds where a run ends with status 1.
use Rattle.std.specs.Prelude.{◌≡◌, ◌≢◌, ◌⊎◌, ℕ, List, [], map, IsErr}
use Rattle.std.specs.declared.option.Option.{Option}
use Rattle.clap.specs.Words.{Text}
use Rattle.omf_commands.specs.Linking.{IsModulesFault}
use Rattle.omf_communal.specs.Deciding.{Variable}
use Rattle.omf_faults.specs.declared.fault.LinkFault.{LinkFault}
use Rattle.omf_module.specs.Module.{Module}
use Rattle.omf_place.specs.declared.names.Names.{Names}
use Rattle.omf_plain.specs.declared.widths.Widths.{Widths}
use Rattle.omf_search.specs.Said as search
use Rattle.doslink_passes.specs.Chain.{AreModulesOf, HaveNoModules}
use Rattle.doslink_passes.specs.Communals.{AreVariablesOf, HaveNoVariables}
use Rattle.doslink_passes.specs.Plain.{AreFaultless, AreFaulty}
use Rattle.doslink_passes.specs.Request.{bytes_in, names_of}
use Rattle.doslink_stock.specs.Files.{Held, members, needs}
use Rattle.doslink_stock.specs.Search.{Takes, all_files}
use Rattle.doslink_telling.specs.Missing.{unmet, wants_marks}
use Rattle.doslink_words.specs.declared.job.Form.{Form}
use Rattle.doslink_words.specs.declared.job.Job.{Job}
use Rattle.doslink_jobs.specs.Jobs.{AreFilesOf}
use Rattle.doslink_jobs.specs.Written.{HasFormFault}

-- A fault stands in what is linked: the first fault of placement, of data and fix-ups, of the start or of relocated
-- words stands in these modules, or their program has no file of the form that is said.
abbrev pub HaveFault : (A : Type 0) → Option Form → Names → (linked : List Module) → Type 0
HaveFault A form names linked =
    ((fault : LinkFault A) × IsModulesFault names linked fault) ⊎ HasFormFault form names linked

-- Names are missing, where modules of these bytes say so of names: that is told where these can be read together, and
-- else why they can't, since a name may be missing alone because a module can't be read.
abbrev pub AreMissingOf : Job → (says : List search.Module) → (given : List (List ℕ)) → Type 0
AreMissingOf job says given =
    (unmet (names_of job.ignore_case) says ≢ [])
    × (AreFaulty job says given given ⊎ AreFaultless job says given given)

-- These modules, which a link takes, can't be linked with these communal variables of theirs: a name is missing,
-- nothing is linked for them, or a fault stands in what is.
abbrev pub AreRefusedWith : (A : Type 0) → Job → (modules : List Held) → List Variable → Type 0
AreRefusedWith A job modules vs =
    let says = map needs modules in
    let marks = wants_marks (names_of job.ignore_case) says in
    AreMissingOf job says (bytes_in modules)
    ⊎ (HaveNoModules job says marks modules vs
    ⊎ ((widths : List Widths) × (sources : List (List ℕ)) × (linked : List Module)
    × AreModulesOf job says marks modules vs widths sources linked
    × HaveFault A job.form (names_of job.ignore_case) linked))

-- these modules, which a link takes, can't be read together
abbrev pub HaveFaulty : Job → (modules : List Held) → Type 0
HaveFaulty job modules = AreFaulty job (map needs modules) (bytes_in modules) (bytes_in modules)

-- the modules that a link takes can't be linked: they can't be read together, they don't agree on communal variables, or
-- can't be linked with these
abbrev pub IsRefusedOf : (A : Type 0) → Job → (takes : List Held → Type 0) → Type 0
IsRefusedOf A job takes =
    (modules : List Held) × takes modules
    × (HaveFaulty job modules ⊎ (HaveNoVariables (names_of job.ignore_case) modules
    ⊎ ((vs : List Variable) × AreVariablesOf (names_of job.ignore_case) modules vs × AreRefusedWith A job modules vs)))

-- a library of these files is at fault
abbrev pub HasFaultyLibrary : (rounds : List (List (List ℕ))) → Type 0
HasFaultyLibrary rounds = IsErr (members (all_files rounds))

-- the files of these rounds can't be linked: a library is at fault, or the modules that a link takes of them can't be
-- linked
abbrev pub IsRefused : (A : Type 0) → Job → (rounds : List (List (List ℕ))) → Type 0
IsRefused A job rounds = HasFaultyLibrary rounds ⊎ IsRefusedOf A job (Takes (names_of job.ignore_case) rounds)

-- A job was refused: some of the files that it asks for were read, with all that it names and so many default libraries
-- as had been found, and these can't be linked.
abbrev pub IsRefusedJob : (A : Type 0) → (told : Text → Option (List ℕ)) → (folders : List Text) → Job → Type 0
IsRefusedJob A told folders job =
    (rounds : List (List (List ℕ))) × AreFilesOf told folders job rounds × IsRefused A job rounds
