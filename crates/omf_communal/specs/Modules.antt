-- The communal variables that the modules of a program declare, and the names that they offer.
use Rattle.std.specs.Prelude.{ℕ, Bool, not, List, filter, map}
use Rattle.std.specs.Borrow.{Bor}
use Rattle.std.specs.List.{enumerate_from, flat_map, list_any}
use Rattle.omf_place.specs.Names.{agrees}
use Rattle.omf_place.specs.declared.names.Names.{Names}
use Rattle.omf_communal.specs.declared.declarations.Declaring.{Declaring}
use Rattle.omf_communal.specs.declared.declarations.Whose.{Whose}
use Rattle.omf_communal.specs.declared.declarations.Extent.{Extent}
use Rattle.omf_communal.specs.Reading.{Communal, plain_communal}

-- what a module declares, in the order of its records, and the names that it offers to others
pub record Module : Type 0 where
  pub communals : List Communal
  pub offered : List (List ℕ)

-- names as their bytes
abbrev pub bytes_of : List (Bor (List ℕ)) → List (List ℕ)
bytes_of names = map (λ n. n.now) names

-- a module without where its bytes lie in memory
abbrev pub module_said : Declaring → Module
module_said m = record { communals = map plain_communal m.communals.now; offered = bytes_of m.offered.now }

-- a variable that a module declares, and by which module and where in it
pub record Declared : Type 0 where
  pub name : List ℕ
  pub extent : Extent
  pub whose : Whose

-- a variable of the module with this index, by its place there
abbrev pub declared_at : ℕ → ℕ × Communal → Declared
declared_at index p =
    record { name = p.1.name; extent = p.1.extent; whose = record { «module» = index; communal = p.0 } }

-- what the module with an index declares
abbrev pub declared_of : ℕ × Module → List Declared
declared_of p = map (declared_at p.0) (enumerate_from 0 p.1.communals)

-- what modules declare, in order of meeting
abbrev pub all_declared : List Module → List Declared
all_declared ms = flat_map declared_of (enumerate_from 0 ms)

-- a module offers a name
abbrev pub offers : Names → (name : List ℕ) → Module → Bool
offers names name m = list_any (agrees names name) m.offered

-- one of some modules offers it
abbrev pub is_offered : Names → List Module → (name : List ℕ) → Bool
is_offered names ms name = list_any (offers names name) ms

-- what modules declare and none offers: a public name wins over communal variables of its name
abbrev pub wanted : Names → List Module → List Declared
wanted names ms = filter (λ d. not (is_offered names ms d.name)) (all_declared ms)
