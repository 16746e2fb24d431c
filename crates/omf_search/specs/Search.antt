-- Which members of libraries the modules of a link take.
use Rattle.std.specs.Prelude.{◌≡◌, ℕ, Bool, not, ◌&&◌, List, [], ◌∷◌, ◌++◌, Option, Some, None, find, is_some}
use Rattle.std.specs.Option.{option_and_then, option_map}
use Rattle.omf_place.specs.declared.names.Names.{Names}
use Rattle.omf_search.specs.Said.{Module, Wanted, is_defined, offers}
use Rattle.omf_search.specs.Wanted.{wanted_names}

-- a member of a library, with the indexes of both
pub record Member : Type 0 where
  pub library : ℕ
  pub member : ℕ
  pub says : Module

-- a member that is taken, and the wanted name for which it is
pub record Choice : Type 0 where
  pub wanted : Wanted
  pub taken : Member

-- The members stand in the order of search: those of the first library, in its order, then those of the next.
module _ (names : Names) (members : List Member) where
  -- the first member that offers a name
  abbrev pub first_offering : (name : List ℕ) → Option Member
  first_offering name = find (λ b. offers names name b.says) members

  -- a wanted name takes a member: no module defines it, and some member offers it
  abbrev pub takes : List Module → Wanted → Bool
  takes ms w = not (is_defined names ms w.name) && is_some (first_offering w.name)

  -- a wanted name with the first member that offers it
  abbrev pub choice : Wanted → Option Choice
  choice w = option_map (λ b. record { wanted = w; taken = b }) (first_offering w.name)

  -- what modules take next: the first wanted name that takes a member, with that member
  abbrev pub next_choice : List Module → Option Choice
  next_choice ms = option_and_then choice (find (takes ms) (wanted_names names ms))

  -- these are all that modules take, in order, each joining the modules at their end
  abbrev pub Chooses : List Module → List Choice → Type 0
  Chooses ms [] = next_choice ms ≡ None
  Chooses ms (c ∷ cs) = (next_choice ms ≡ Some c) × Chooses (ms ++ c.taken.says ∷ []) cs
