-- The communal variables of a link, and the module that has them.
use Rattle.std.specs.Prelude.{◌≡◌, ◌⊎◌, ℕ, Any, IsErr, List, map, None, Some, Ok}
use Rattle.std.specs.declared.result.Result.{Result}
use Rattle.std.specs.List.{list_any}
use Rattle.omf_communal.specs.declared.declarations.Scope.TheVariants as scope
use Rattle.omf_communal.specs.declared.fault.CommunalFault.{CommunalFault}
use Rattle.omf_communal.specs.Answers.{communal_module}
use Rattle.omf_communal.specs.Bss.{has_bss}
use Rattle.omf_communal.specs.Deciding.{Variable, variables}
use Rattle.omf_communal.specs.Modules as communal
use Rattle.omf_communal.specs.Reading.{communals_of}
use Rattle.omf_library.specs.Records.{module_records, result_and_then}
use Rattle.omf_module.specs.Module.{Module}
use Rattle.omf_place.specs.declared.names.Names.{Names}
use Rattle.doslink_link.specs.Reading.{IsNoModule}
use Rattle.doslink_stock.specs.Files.{Held}
use Rattle.doslink_passes.specs.Linked.{HasBehind, Linked}

-- the communal variables that a module declares, and the names that it offers; or its first record at fault
abbrev pub declared_by : Held → Result communal.Module CommunalFault
declared_by m = result_and_then (λ cs. Ok (record { communals = cs; offered = m.says.offered }))
    (communals_of scope.Program (module_records m.bytes 0))

-- these are the communal variables of modules
pub record AreVariablesOf (names : Names) (modules : List Held) (vs : List Variable) : Type 0 where
  pub declared : List communal.Module
  pub are_declared : map declared_by modules ≡ map Ok declared
  pub agreed : variables names declared ≡ Ok vs

-- a record of some module declares no communal variables as it should, or declarations of modules clash
abbrev pub HaveNoVariables : Names → (modules : List Held) → Type 0
HaveNoVariables names modules =
    Any (λ m. IsErr (declared_by m)) modules
    ⊎ ((declared : List communal.Module) × (map declared_by modules ≡ map Ok declared)
    × IsErr (variables names declared))

-- modules with the one of these variables behind them, where there are some: near ones stand in `_BSS` where a module
-- has that in DGROUP
abbrev pub HasCommunal : Linked → List Variable → (all : Linked) → Type 0
HasCommunal l vs all =
    ((communal_module (list_any has_bss l.modules) vs ≡ Ok None) × (all ≡ l))
    ⊎ ((bytes : List ℕ) × (communal_module (list_any has_bss l.modules) vs ≡ Ok (Some bytes))
    × HasBehind l bytes all)

-- some communal variable has no place in the module for them
abbrev pub HaveNoPlace : List Module → List Variable → Type 0
HaveNoPlace modules vs = IsErr (communal_module (list_any has_bss modules) vs)

-- so it is, or the module for them is longer than an input may be
abbrev pub HasNoCommunal : List Module → List Variable → Type 0
HasNoCommunal modules vs =
    HaveNoPlace modules vs
    ⊎ ((bytes : List ℕ) × (communal_module (list_any has_bss modules) vs ≡ Ok (Some bytes)) × IsNoModule bytes)
