-- What modules say of names: those that they want from other modules, and those that they define for them.
use Rattle.std.specs.Prelude.{ℕ, Bool, ◌||◌, List}
use Rattle.std.specs.List.{list_any}
use Rattle.omf_library.specs.Aliases.{Alias}
use Rattle.omf_place.specs.Names.{agrees}
use Rattle.omf_place.specs.declared.names.Names.{Names}

-- a module, in the order of its records: the names that it wants, those of all externals that others may define, those
-- that it offers, its communal variables, and its aliases, whose names it offers too
pub record Module : Type 0 where
  pub wanted : List (List ℕ)
  pub externals : List (List ℕ)
  pub offered : List (List ℕ)
  pub communals : List (List ℕ)
  pub aliases : List Alias

-- a name that a module wants, with the index of the module
pub record Wanted : Type 0 where
  pub name : List ℕ
  pub wanted_by : ℕ

-- a module offers a name
abbrev pub offers : Names → (name : List ℕ) → Module → Bool
offers names name m = list_any (agrees names name) m.offered

-- it defines one: it offers it, or declares it as a communal variable
abbrev pub defines : Names → (name : List ℕ) → Module → Bool
defines names name m = offers names name m || list_any (agrees names name) m.communals

-- one of some modules defines it
abbrev pub is_defined : Names → List Module → (name : List ℕ) → Bool
is_defined names ms name = list_any (defines names name) ms
