-- How the passes over modules that were read are made.
use Rattle.std.specs.Prelude.{ℕ, ◌-◌, Bool, nat_lt, if◌then◌else◌, unwrap_or, length, List, map, slice_set}
use Rattle.omf_library.specs.Defaults.{Defaulted}
use Rattle.omf_module.specs.Module.{ExternalSymbol}
use Rattle.omf_place.specs.declared.names.Names.{Names}
use Rattle.omf_search.specs.Results.{module_said}
use Rattle.omf_search.specs.Said.{Module}
use Rattle.doslink_passes.specs.declared.meanings.Meanings.{Meanings}
use Rattle.doslink_passes.specs.Meant.{Taking, external_name, local_default}

-- the indexes of what externals mean, with that of one that has this default
abbrev pub with_meaning : Names → (says : List Module) → List ExternalSymbol → Defaulted → List ℕ → List ℕ
with_meaning names says externals d indexes =
    if nat_lt 0 d.index
    then slice_set indexes (d.index - 1)
    (unwrap_or (local_default names says (length indexes) (external_name externals d.index) d) d.index)
    else indexes

-- how a link takes modules, as it is held
abbrev pub taking_of : {A : Type 0} → (packs : Bool) → Meanings A → Taking
taking_of packs m = record { names = m.names; says = map module_said m.says.now; packs = packs }
