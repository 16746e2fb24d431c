-- The places of variables are apart, and each lies in the segment that was made for it.
use Rattle.std.specs.Prelude.{◌≡◌, ℕ, ◌+◌, ◌*◌, ◌≤◌, List, [], ◌∷◌, ◌++◌, length, sum, Option, None, Some, Ok}
use Rattle.omf_communal.specs.declared.declarations.Extent.{Extent}
use Rattle.omf_communal.specs.declared.declarations.Extent.TheVariants.{Near, Far}
use Rattle.omf_communal.specs.declared.places.Before.{Before}
use Rattle.omf_communal.specs.Deciding.{Variable}
use Rattle.omf_communal.specs.Plan.{Place, Plan, plan}

-- a name, and how many bytes its variable has
pub record Sized : Type 0 where
  pub name : List ℕ
  pub bytes : ℕ

abbrev pub near_of : (name : List ℕ) → Extent → List Sized
near_of name (Near length) = record { name = name; bytes = length } ∷ []
near_of name (Far count size) = []

-- the near ones of some variables
abbrev pub nears : List Variable → List Sized
nears [] = []
nears (v ∷ vs) = near_of v.name v.extent ++ nears vs

abbrev pub far_of : (name : List ℕ) → Extent → List Sized
far_of name (Near length) = []
far_of name (Far count size) = record { name = name; bytes = count * size } ∷ []

-- the far ones
abbrev pub fars : List Variable → List Sized
fars [] = []
fars (v ∷ vs) = far_of v.name v.extent ++ fars vs

-- a near variable stands in the first segment behind those before, in the group behind those before, which is DGROUP,
-- and begins at or behind a byte
pub record IsNearAt (before : Before) (at : ℕ) (s : Sized) (p : Place) : Type 0 where
  pub name : p.name ≡ s.name
  pub group : p.group ≡ before.groups + 1
  pub segment : p.segment ≡ before.segments + 1
  pub behind : at ≤ p.offset

-- near ones stand at places one behind the other, from a byte on up to an end
abbrev pub NearRow : Before → (at end : ℕ) → List Sized → List Place → Type 0
NearRow before at end [] [] = at ≤ end
NearRow before at end [] (p ∷ ps) = ⊥
NearRow before at end (s ∷ ss) [] = ⊥
NearRow before at end (s ∷ ss) (p ∷ ps) = IsNearAt before at s p × NearRow before (p.offset + s.bytes) end ss ps

-- a far variable stands at the begin of a segment, of no group, and its own segments, from that one on, have its bytes
pub record IsFarAt (index : ℕ) (own : List ℕ) (s : Sized) (p : Place) : Type 0 where
  pub name : p.name ≡ s.name
  pub group : p.group ≡ 0
  pub segment : p.segment ≡ index
  pub offset : p.offset ≡ 0
  pub bytes : sum own ≡ s.bytes

-- far ones stand in segments of their own, the first of which has this index; these are all
abbrev pub FarRow : (segment : ℕ) → (parts : List ℕ) → List Sized → List Place → Type 0
FarRow segment parts [] [] = parts ≡ []
FarRow segment parts [] (p ∷ ps) = ⊥
FarRow segment parts (s ∷ ss) [] = ⊥
FarRow segment parts (s ∷ ss) (p ∷ ps) = (own rest : List ℕ) × (parts ≡ own ++ rest) × IsFarAt segment own s p
    × FarRow (segment + length own) rest ss ps

-- the length of the near segment, and how many there are
abbrev pub near_length : Option ℕ → ℕ
near_length None = 0
near_length (Some length) = length

abbrev pub near_count : Option ℕ → ℕ
near_count None = 0
near_count (Some length) = 1

-- all variables have places: near ones in the near segment, of at most 65,536 bytes, and far ones behind it
pub record AreApart (before : Before) (vs : List Variable) (p : Plan) : Type 0 where
  pub near : List Place
  pub far : List Place
  pub all : p.places ≡ near ++ far
  pub in_near : NearRow before 0 (near_length p.near) (nears vs) near
  pub short : near_length p.near ≤ 65536
  pub in_far : FarRow (before.segments + near_count p.near + 1) p.far (fars vs) far

-- so they are in each plan
abbrev pub ArePlaced : Type 0
ArePlaced = (before : Before) (vs : List Variable) (p : Plan) → plan before vs ≡ Ok p → AreApart before vs p
