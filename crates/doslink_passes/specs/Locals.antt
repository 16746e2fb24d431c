-- The variables that are local to the modules of a link.
use Rattle.std.specs.Prelude.{◌≡◌, ◌⊎◌, ℕ, IsErr, List, [], ◌∷◌, length, None, Some, Ok}
use Rattle.std.specs.declared.option.Option.{Option}
use Rattle.std.specs.declared.result.Result.{Result}
use Rattle.std.specs.List.{list_any}
use Rattle.omf_communal.specs.declared.declarations.Scope.TheVariants as scope
use Rattle.omf_communal.specs.declared.fault.ClashFault.{ClashFault}
use Rattle.omf_communal.specs.Answers.{local_module_bytes}
use Rattle.omf_communal.specs.Bss.{has_bss}
use Rattle.omf_communal.specs.Deciding.{Variable, variables}
use Rattle.omf_communal.specs.Locals.{local_names_of}
use Rattle.omf_communal.specs.Reading.{Communal, communals_of}
use Rattle.omf_library.specs.Records.{module_records}
use Rattle.omf_module.specs.Joined.{with_declarations}
use Rattle.omf_module.specs.Module.{Module}
use Rattle.omf_place.specs.declared.names.Names.{Names}
use Rattle.doslink_link.specs.Reading.{IsNoModule, IsRead}

-- the variables that a module declares so as local to it: one for each name that none of its local publics has; or the
-- first clash
abbrev pub local_variables_of : Names → List Communal → Module → Result (List Variable) ClashFault
local_variables_of names declared m =
    variables names (record { communals = declared; offered = local_names_of m } ∷ [])

-- a module, one of these, has the module of these bytes for its variables, or none. Near ones stand in `_BSS` where one
-- of the modules has that in DGROUP
abbrev pub IsMadeFor : Names → (all : List Module) → List Communal → Module → (bytes : Option (List ℕ)) → Type 0
IsMadeFor names all declared m bytes =
    (vs : List Variable) × (local_variables_of names declared m ≡ Ok vs)
    × (local_module_bytes (list_any has_bss all) (length m.segments) vs ≡ Ok bytes)

-- a module with what the module of these bytes defines behind it; the same, where there is none
abbrev pub IsBehind : Module → (bytes : Option (List ℕ)) → (all : Module) → Type 0
IsBehind m None all = all ≡ m
IsBehind m (Some bytes) all = (more : Module) × IsRead bytes more × (with_declarations m more ≡ Some all)

-- a module, one of these, with what is declared as local to it: the same, where that is nothing
abbrev pub IsPlaced : Names → (all : List Module) → List Communal → (m placed : Module) → Type 0
IsPlaced names all [] m placed = placed ≡ m
IsPlaced names all (c ∷ cs) m placed =
    (bytes : Option (List ℕ)) × IsMadeFor names all (c ∷ cs) m bytes × IsBehind m bytes placed

-- a module, one of these, with the variables that it itself declares as local to it; it is given as these bytes
pub record HasLocals (names : Names) (all : List Module) (given : List ℕ) (m placed : Module) : Type 0 where
  pub declared : List Communal
  pub are_declared : communals_of scope.Module (module_records given 0) ≡ Ok declared
  pub is_placed : IsPlaced names all declared m placed

-- so has each
abbrev pub EachHasLocals : Names → (all : List Module) → (given : List (List ℕ)) → (modules placed : List Module)
    → Type 0
EachHasLocals names all [] [] [] = Unit {0}
EachHasLocals names all (given ∷ more) (m ∷ ms) (p ∷ ps) =
    HasLocals names all given m p × EachHasLocals names all more ms ps
EachHasLocals names all _ _ _ = ⊥

-- these are modules with the variables that each itself declares as local to it
abbrev pub HaveLocals : Names → (given : List (List ℕ)) → (modules placed : List Module) → Type 0
HaveLocals names given modules placed = EachHasLocals names modules given modules placed

-- bytes begin with no module, or with one that can't stand behind a module
abbrev pub IsUnusable : Module → (bytes : List ℕ) → Type 0
IsUnusable m bytes = IsNoModule bytes ⊎ ((more : Module) × IsRead bytes more × (with_declarations m more ≡ None))

-- of a module, one of these, the variables that it declares so as local to it clash or have no place
abbrev pub AreUnplaced : Names → (all : List Module) → List Communal → Module → Type 0
AreUnplaced names all declared m =
    IsErr (local_variables_of names declared m)
    ⊎ (((vs : List Variable) × (local_variables_of names declared m ≡ Ok vs)
    × IsErr (local_module_bytes (list_any has_bss all) (length m.segments) vs))
    ⊎ ((bytes : List ℕ) × IsMadeFor names all declared m (Some bytes) × IsUnusable m bytes))

-- those of a module aren't declared as they should be, or so it is with them
abbrev pub HasNoLocals : Names → (all : List Module) → (given : List ℕ) → Module → Type 0
HasNoLocals names all given m =
    IsErr (communals_of scope.Module (module_records given 0))
    ⊎ ((declared : List Communal) × (communals_of scope.Module (module_records given 0) ≡ Ok declared)
    × AreUnplaced names all declared m)

-- so it is of some module of these
abbrev pub SomeHasNoLocals : Names → (all : List Module) → (given : List (List ℕ)) → (modules : List Module) → Type 0
SomeHasNoLocals names all (given ∷ more) (m ∷ ms) =
    HasNoLocals names all given m ⊎ SomeHasNoLocals names all more ms
SomeHasNoLocals names all _ _ = ⊥
