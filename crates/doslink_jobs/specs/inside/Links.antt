-- How a link ends of the modules that it takes, where none of their names is missing.
use Rattle.std.specs.Prelude.{◌⊎◌, ℕ, Bool, List}
use Rattle.omf_communal.specs.Deciding.{Variable}
use Rattle.omf_module.specs.Module as omf
use Rattle.omf_plain.specs.declared.widths.Widths.{Widths}
use Rattle.omf_search.specs.Said.{Module}
use Rattle.doslink_link.specs.Linking.{IsFaultless}
use Rattle.doslink_passes.specs.Chain.{AreModulesOf, HaveNoModules}
use Rattle.doslink_passes.specs.Request.{names_of}
use Rattle.doslink_stock.specs.Files.{Held}
use Rattle.doslink_words.specs.declared.job.Job.{Job}
use Rattle.doslink_jobs.specs.Refusals.{HaveFault}

-- modules were linked with their communal variables, where all say so of names, and written
abbrev pub IsLinkedWith : (A : Type 0) → Job → (Written : (sources : List (List ℕ)) → List omf.Module → Type 0)
    → (says : List Module) → (marks : Bool) → (modules : List Held) → List Variable → Type 0
IsLinkedWith A job Written says marks modules vs =
    (widths : List Widths) × (sources : List (List ℕ)) × (linked : List omf.Module)
    × AreModulesOf job says marks modules vs widths sources linked
    × IsFaultless A (names_of job.ignore_case) linked × Written sources linked

-- they can't be linked with these
abbrev pub IsRefusedWith : (A : Type 0) → Job → (says : List Module) → (marks : Bool) → (modules : List Held)
    → List Variable → Type 0
IsRefusedWith A job says marks modules vs =
    HaveNoModules job says marks modules vs
    ⊎ ((widths : List Widths) × (sources : List (List ℕ)) × (linked : List omf.Module)
    × AreModulesOf job says marks modules vs widths sources linked
    × HaveFault A job.form (names_of job.ignore_case) linked)
