-- Where offered names that are like others stand.
use Rattle.std.specs.Prelude.{◌≡◌, ℕ, Bool, ◌==◌, ◌||◌, List, [], ◌∷◌, Option, Some, None, find, if◌then◌else◌, min}
use Rattle.std.specs.Borrow.{Bor}
use Rattle.omf_place.specs.Names.{agrees}
use Rattle.omf_place.specs.declared.names.Names.TheVariants as by
use Rattle.omf_search.specs.declared.name_map.NameMap.{NameMap}
use Rattle.omf_search.specs.Keys.{value_of}
use Rattle.omf_search.specs.Places.{place_from}
use Rattle.omf_search.specs.Likeness.{Offered, is_like}

-- what stands behind the underscore in front, if there is one
abbrev pub behind : List ℕ → Option (List ℕ)
behind [] = None
behind (b ∷ rest) = if b == 95 then Some rest else None

-- a name is another, or the other behind an underscore
abbrev pub is_behind : (one other : List ℕ) → Bool
is_behind one other = agrees by.AsciiFolded one other || agrees by.AsciiFolded (95 ∷ one) other

-- a map has for each name the place of the first that is it, or it behind an underscore
abbrev pub IsIndex : {A : Type 0} → List Offered → NameMap ℕ A → Type 0
IsIndex os places =
    (q : Bor (List ℕ)) → value_of by.AsciiFolded places q ≡ place_from 0 (λ o. is_behind q.now o.name) os

-- the lesser of two places
abbrev pub lesser : Option ℕ → Option ℕ → Option ℕ
lesser None o = o
lesser (Some m) None = Some m
lesser (Some m) (Some n) = Some (min m n)

-- the first of these that is like a name
abbrev pub like_among : List Offered → List ℕ → Option Offered
like_among os name = find (λ o. is_like name o.name) os
