-- What names mean in modules, as it is held.
use Rattle.std.specs.Prelude.{◌≡◌, ℕ, Bool, List, map}
use Rattle.omf_comdat.specs.declared.fate.ComdatFate.{ComdatFate}
use Rattle.omf_plain.specs.Plain.{Taking}
use Rattle.omf_alias.specs.Meaning.{Renaming}
use Rattle.omf_alias.specs.Said.{aliases_said}
use Rattle.omf_search.specs.Results.{module_said}
use Rattle.omf_search.specs.Said.{Module}
use Rattle.doslink_passes.specs.declared.meanings.Meanings.{Meanings}
use Rattle.doslink_words.specs.declared.job.Job.{Job}
use Rattle.doslink_passes.specs.Aliases.{link_aliases, module_renaming}
use Rattle.doslink_passes.specs.Request.{names_of}

-- what they mean in the module of these bytes
abbrev pub means : {A : Type 0} → Meanings A → (bytes : List ℕ) → Renaming
means m bytes = module_renaming m.names (map module_said m.says.now) (aliases_said m.aliases.aliases.items) bytes

-- names mean so in the modules of a job, which say so of names and are given as these bytes
pub record AreMeaningsFor {A : Type 0} (job : Job) (says : List Module) (given : List (List ℕ)) (m : Meanings A)
    : Type 0 where
  pub names : m.names ≡ names_of job.ignore_case
  pub says_so : map module_said m.says.now ≡ says
  pub aliases : aliases_said m.aliases.aliases.items ≡ link_aliases given

-- how the module of these bytes is taken by them, where this becomes of its COMDAT records
abbrev pub taking_by : {A : Type 0} → (keep_debug : Bool) → Meanings A → (bytes : List ℕ) → (comdats : List ComdatFate)
    → Taking
taking_by keep_debug m bytes comdats =
    record { keep_debug = keep_debug; renaming = means m bytes; comdats = comdats }
