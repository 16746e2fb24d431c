-- Variables as the code holds them.
use Rattle.std.specs.Prelude.{◌≡◌, ℕ, ◌+◌, Bool, List, [], ◌∷◌, Option, Some, None, if◌then◌else◌, map}
use Rattle.std.specs.Borrow.{Bor}
use Rattle.indexmap.specs.IndexMap.{get}
use Rattle.omf_place.specs.Names.{agrees}
use Rattle.omf_place.specs.declared.names.Names.{Names}
use Rattle.omf_communal.specs.declared.declarations.Declared as lent
use Rattle.omf_communal.specs.declared.deciding.Met.{Met}
use Rattle.omf_communal.specs.Modules.{Declared}
use Rattle.omf_communal.specs.Deciding.{Variable, variable_said}
use Rattle.omf_keys.specs.Keys.{key_of, same_key}

-- a variable that a module declares
abbrev pub declared_said : lent.Declared → Declared
declared_said d = record { name = d.name.now; extent = d.extent; whose = d.whose }

-- the place of the first element that passes a test, counted from a number
abbrev pub place_from : {X : Type 0} → ℕ → (X → Bool) → List X → Option ℕ
place_from n test [] = None
place_from n test (x ∷ xs) = if test x then Some n else place_from (n + 1) test xs

-- the place of the variable of a name
abbrev pub place_of : Names → (name : List ℕ) → List Variable → Option ℕ
place_of names name vs = place_from 0 (λ v. agrees names name v.name) vs

-- the map has for each name the place of its variable
abbrev pub IsMet : {A : Type 0} → Names → Met A → Type 0
IsMet names met = (q : Bor (List ℕ)) →
    get same_key met.places (key_of names q) ≡ place_of names q.now (map variable_said met.variables.items)
