-- Offered names that are like a wanted one.
use Rattle.std.specs.Prelude.{ℕ, Bool, ◌||◌, List, ◌∷◌, ◌++◌, Option, find, map}
use Rattle.std.specs.List.{enumerate_from, flat_map}
use Rattle.omf_place.specs.Names.{agrees}
use Rattle.omf_place.specs.declared.names.Names.TheVariants.{AsciiFolded}
use Rattle.omf_search.specs.declared.likeness.Whose.{Whose}
use Rattle.omf_search.specs.declared.likeness.Whose.TheVariants as whose
use Rattle.omf_search.specs.Said.{Module}
use Rattle.omf_search.specs.Search.{Member}

-- an offered name, and which module offers it
pub record Offered : Type 0 where
  pub name : List ℕ
  pub whose : Whose

-- what a module offers
abbrev pub offered_of : Whose → Module → List Offered
offered_of whose m = map (λ n. record { name = n; whose = whose }) m.offered

-- what modules offer, and behind it what members of libraries offer
abbrev pub offered_names : List Module → List Member → List Offered
offered_names ms members =
    flat_map (λ p. offered_of (whose.Module p.0) p.1) (enumerate_from 0 ms) ++
    flat_map (λ b. offered_of (whose.Member b.library b.member) b.says) members

-- two names differ in case, and in one underscore (5FH) in front, at most
abbrev pub is_like : (one other : List ℕ) → Bool
is_like one other =
    agrees AsciiFolded one other || (agrees AsciiFolded (95 ∷ one) other || agrees AsciiFolded one (95 ∷ other))

-- the first offered name that is like one
abbrev pub first_like : List Module → List Member → (name : List ℕ) → Option Offered
first_like ms members name = find (λ o. is_like name o.name) (offered_names ms members)
