-- A program whose segments stand, as the code holds it.
use Rattle.std.specs.Prelude.{◌≡◌, ℕ, ◌<◌, ◌^◌, List, length, map, Some, slice_get}
use Rattle.std.specs.List.{AllByRecursion}
use Rattle.omf_module.specs.Module.{Module, Segment}
use Rattle.omf_module.specs.Sound.{IsSound}
use Rattle.omf_place.specs.declared.inputs.Input as held
use Rattle.omf_place.specs.declared.stands.Stand.{Stand}
use Rattle.omf_place.specs.Parts.{Input, inputs}
use Rattle.omf_place.specs.Parts.{Site, sites}
use Rattle.omf_place.specs.inside.Sites.{sites_view}
use Rattle.omf_place.specs.inside.Stands.{stand_of}

-- the addresses of the segments, by position
abbrev pub addresses_of : List Stand → List ℕ
addresses_of stands = map (λ s. s.address) stands

-- the stands of the sites, by position
abbrev pub AreStands : List Site → List Stand → Type 0
AreStands ss stands = stands ≡ map (stand_of ss (addresses_of stands)) ss

-- each segment of a module has a site, in their order
unfoldable pub RowIs : Input → Type 0
RowIs n = (k : ℕ) (s : Segment) → slice_get n.says.segments k ≡ Some s → (a : Site) × (slice_get n.sites k ≡ Some a) ×
    (a.segment ≡ s)

module _ {A : Type 0} where
  -- as a value
  abbrev pub input_view : held.Input A → Input
  input_view x = record { input = x.input; says = x.says.now; sites = sites_view x.sites.now }

  -- its stands are those of its sites
  abbrev pub HasStands : List Site → (addresses : List ℕ) → held.Input A → Type 0
  HasStands ss addresses x = x.stands.now ≡ map (stand_of ss addresses) (sites_view x.sites.now)

  -- its module is sound
  abbrev pub IsSoundInput : held.Input A → Type 0
  IsSoundInput x = IsSound x.says.now

  -- each component of a GRPDEF has a stand
  abbrev pub HasComponents : held.Input A → Type 0
  HasComponents x = AllByRecursion (λ g. AllByRecursion (λ k. k < length x.stands.now) g.members) x.says.now.groups

  -- a sound module of a program each segment of which has a stand
  pub record IsPlacedInput (ss : List Site) (addresses : List ℕ) (x : held.Input A) : Type 0 where
    pub sound : IsSoundInput x
    pub row : RowIs (input_view x)
    pub sites : length x.sites.now ≡ length x.says.now.segments
    pub stands : length x.stands.now ≡ length x.sites.now
    pub low : AllByRecursion (λ s. s.address < 2 ^ 21) x.stands.now
    pub components : HasComponents x
    pub own : HasStands ss addresses x

  -- the inputs of a program, each placed
  pub record ArePlaced (program : List Module) (addresses : List ℕ) (xs : List (held.Input A)) : Type 0 where
    pub made : map input_view xs ≡ inputs program
    pub each : AllByRecursion (IsPlacedInput (sites program) addresses) xs
    pub indexed : AllByRecursion (λ x. x.input < length xs) xs
    pub count : length xs ≡ length program
