-- Plans as the code holds them.
use Rattle.std.specs.Prelude.{◌≡◌, ℕ, true, false, List, map, Ok, Option, Some, None}
use Rattle.std.specs.declared.result.Result.{Result}
use Rattle.std.specs.Option.{option_map}
use Rattle.omf_communal.specs.declared.fault.PlanFault.{PlanFault}
use Rattle.omf_communal.specs.declared.planning.Fars.{Fars}
use Rattle.omf_communal.specs.declared.places.Before.{Before}
use Rattle.omf_communal.specs.declared.places.Nears.{Nears}
use Rattle.omf_communal.specs.declared.places.Part.{Part}
use Rattle.omf_communal.specs.declared.places.Place as lent
use Rattle.omf_communal.specs.declared.places.Room.{Room}
use Rattle.omf_communal.specs.declared.planning.Plan as held
use Rattle.omf_communal.specs.Deciding.{Variable}
use Rattle.omf_communal.specs.Plan.{Place, Plan, is_full, far_lengths, far_places, near_end, near_places}

-- a place
abbrev pub place_said : lent.Place → Place
place_said p = record { name = p.name.now; group = p.group; segment = p.segment; offset = p.offset }

-- places
abbrev pub places_said : List lent.Place → List Place
places_said ps = map place_said ps

-- segments, by their lengths
abbrev pub parts_said : List Part → List ℕ
parts_said ps = map (λ p. p.length) ps

-- a plan
abbrev pub plan_said : {A : Type 0} → held.Plan A → Plan
plan_said p = record {
  near = option_map (λ part. part.length) p.near;
  far = parts_said p.far.items;
  places = places_said p.places.items;
}

-- what stands before variables
abbrev pub room_said : Room → Before
room_said r = record { names = r.names; segments = r.segments; groups = r.groups }

-- the room behind what stands before, if it isn't full
abbrev pub IsRoom : Before → Option Room → Type 0
IsRoom before None = is_full before ≡ true
IsRoom before (Some room) = (is_full before ≡ false) × (room_said room ≡ before)

-- the places of the near ones of these variables
pub record AreNears {A : Type 0} (before : Before) (vs : List Variable) (n : Nears A) : Type 0 where
  pub places : near_places before 0 0 vs ≡ Ok (places_said n.places.items)
  pub ends : n.end ≡ near_end 0 vs

-- the segments and places of the far ones, from this segment on
pub record AreFars {A : Type 0} (first : ℕ) (vs : List Variable) (f : Fars A) : Type 0 where
  pub places : far_places first 0 vs ≡ Ok (places_said f.places.items)
  pub parts : parts_said f.parts.items ≡ far_lengths vs

-- there is a plan
abbrev pub HasPlan : Result Plan PlanFault → Type 0
HasPlan answer = (p : Plan) × (answer ≡ Ok p)
