-- Names known to all modules, and names of one module.
use Rattle.std.specs.Prelude.{ℕ, Bool, nat_eq, ◌&&◌, List, filter, map, Option}
use Rattle.std.specs.Option.{option_eq}
use Rattle.omf_place.specs.Names.{Table, agrees}
use Rattle.omf_place.specs.declared.names.Names.{Names}

-- an owner is the index of a module, or none where the name is known to all
pub record ScopedName (V : Type 0) : Type 0 where
  pub owner : Option ℕ
  pub name : List ℕ
  pub value : V

-- the names of an owner, in order
abbrev pub table : {V : Type 0} → Names → Option ℕ → List (ScopedName V) → Table V
table names owner es =
    record { names = names; entries = map (λ e. (e.name, e.value)) (filter (λ e. option_eq nat_eq owner e.owner) es) }

-- a name known to all and one of a module are never one name, nor are those of two modules
abbrev pub clashes : {V : Type 0} → Names → ScopedName V → ScopedName V → Bool
clashes names e d = option_eq nat_eq e.owner d.owner && agrees names e.name d.name
