-- The modules of a link as the fourteen types of records say them (docs/DOSLINK.md, "What is lowered").
use Rattle.std.specs.Prelude.{◌≡◌, ◌⊎◌, ℕ, All, Any, List, [], ◌∷◌}
use Rattle.std.specs.declared.option.Option.{Option}
use Rattle.omf_alias.specs.Meaning.{Renaming}
use Rattle.omf_comdat.specs.declared.fate.ComdatFate.{ComdatFate}
use Rattle.omf_module.specs.Module.{Module}
use Rattle.omf_plain.specs.Modules.{IsPlainModule}
use Rattle.omf_plain.specs.Plain.{Taking}
use Rattle.omf_plain.specs.declared.widths.Widths.{Widths}
use Rattle.omf_search.specs.Said as search
use Rattle.doslink_words.specs.declared.job.Job.{Job}
use Rattle.doslink_passes.specs.Aliases.{EndsIn, link_aliases, module_renaming}
use Rattle.doslink_passes.specs.Comdats.{AreFatesFor, HaveClash}
use Rattle.doslink_passes.specs.Names.{start_module, started_by}
use Rattle.doslink_passes.specs.Request.{names_of}

-- what names mean in each of the modules of a job, by its bytes, where the link's modules say so of names: the aliases
-- of each hold for all
abbrev pub renaming_of : Job → (says : List search.Module) → (given : List (List ℕ)) → (bytes : List ℕ) → Renaming
renaming_of job says given bytes = module_renaming (names_of job.ignore_case) says (link_aliases given) bytes

-- how a job takes the module of these bytes, one of those that are given, where this becomes of its COMDAT records
abbrev pub taking_of : Job → (says : List search.Module) → (given : List (List ℕ)) → (bytes : List ℕ)
    → (comdats : List ComdatFate) → Taking
taking_of job says given bytes comdats = record {
  keep_debug = job.keep_debug;
  renaming = renaming_of job says given bytes;
  comdats = comdats;
}

-- these bytes are a module as it is taken
abbrev pub IsPlain : Taking → (bytes : List ℕ) → Type 0
IsPlain taking bytes = (m : Module) × (w : Widths) × IsPlainModule taking bytes m w

-- or none
abbrev pub IsNoPlain : Taking → (bytes : List ℕ) → Type 0
IsNoPlain taking bytes = (m : Module) (w : Widths) → IsPlainModule taking bytes m w → ⊥

-- how a module is taken, by its bytes and what becomes of its COMDAT records
abbrev pub Takes : Type 0
Takes = (bytes : List ℕ) → (comdats : List ComdatFate) → Taking

-- this is the module that is given as these bytes, without its own start where another one says where the program
-- starts
abbrev pub IsTaken : Takes → (made : Option (List ℕ)) → (bytes : List ℕ) → List ComdatFate → Module → Widths → Type 0
IsTaken take made bytes comdats m w =
    (plain : Module) × IsPlainModule (take bytes comdats) bytes plain w × (m ≡ started_by made bytes plain)

-- so are these those that are given, where this becomes of the COMDAT records of each
abbrev pub AreTaken : Takes → (made : Option (List ℕ)) → (given : List (List ℕ)) → (fates : List (List ComdatFate))
    → List Module → List Widths → Type 0
AreTaken take made [] [] [] [] = Unit {0}
AreTaken take made (bytes ∷ given) (comdats ∷ fates) (m ∷ ms) (w ∷ ws) =
    IsTaken take made bytes comdats m w × AreTaken take made given fates ms ws
AreTaken take made _ _ _ _ = ⊥

-- the modules of a job as it takes them, where the link's modules say so of names: no name goes round for ever, and
-- this becomes of their COMDAT records
pub record AreTakenFor (job : Job) (says : List search.Module) (given : List (List ℕ)) (modules : List Module)
    (widths : List Widths) : Type 0 where
  pub end : All (EndsIn (names_of job.ignore_case) says (link_aliases given)) given
  pub fates : List (List ComdatFate)
  pub are_fates : AreFatesFor (names_of job.ignore_case) given fates
  pub taken : AreTaken (taking_of job says given) (start_module job) given fates modules widths

-- a record of some of these modules is none of the fourteen
abbrev pub SomeIsNoPlain : Takes → (given : List (List ℕ)) → (fates : List (List ComdatFate)) → Type 0
SomeIsNoPlain take (bytes ∷ given) (comdats ∷ fates) =
    IsNoPlain (take bytes comdats) bytes ⊎ SomeIsNoPlain take given fates
SomeIsNoPlain take _ _ = ⊥

-- Of these modules some can't be read together, by what names mean in those that are given: two of their COMDATs of one
-- name clash, or a record is none of the fourteen.
abbrev pub AreFaulty : Job → (says : List search.Module) → (given these : List (List ℕ)) → Type 0
AreFaulty job says given these =
    HaveClash (names_of job.ignore_case) these
    ⊎ ((fates : List (List ComdatFate)) × AreFatesFor (names_of job.ignore_case) these fates
    × SomeIsNoPlain (taking_of job says given) these fates)

-- each of these is a module as it is taken
abbrev pub AllArePlain : Takes → (given : List (List ℕ)) → (fates : List (List ComdatFate)) → Type 0
AllArePlain take [] [] = Unit {0}
AllArePlain take (bytes ∷ given) (comdats ∷ fates) = IsPlain (take bytes comdats) bytes × AllArePlain take given fates
AllArePlain take _ _ = ⊥

-- these modules can be read together
abbrev pub AreFaultless : Job → (says : List search.Module) → (given these : List (List ℕ)) → Type 0
AreFaultless job says given these =
    (fates : List (List ComdatFate)) × AreFatesFor (names_of job.ignore_case) these fates
    × AllArePlain (taking_of job says given) these fates

-- the modules of a job aren't taken: a name of one goes round for ever, or some can't be read together
abbrev pub AreNotTaken : Job → (says : List search.Module) → (given : List (List ℕ)) → Type 0
AreNotTaken job says given =
    Any (λ bytes. EndsIn (names_of job.ignore_case) says (link_aliases given) bytes → ⊥) given
    ⊎ AreFaulty job says given given
