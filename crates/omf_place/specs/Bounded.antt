-- The bounds of a layout, for what is built on it.
use Rattle.std.specs.Prelude.{◌≡◌, ℕ, ◌+◌, ◌*◌, ◌/◌, ◌≤◌, List, length, Some, slice_get}
use Rattle.omf_module.specs.declared.Standing.{Standing}
use Rattle.omf_module.specs.declared.Standing.TheVariants.{Absolute, Relocatable}
use Rattle.omf_module.specs.Module.{Module, Segment}
use Rattle.omf_place.specs.declared.layout.Combined.{Combined}
use Rattle.omf_place.specs.declared.layout.Position.{Position}
use Rattle.omf_place.specs.declared.layout.Position.TheVariants as position
use Rattle.omf_place.specs.Layout.{Layout, ModulePlaces, places_of, segment_in}

-- a part lies inside the program and has a frame; an absolute segment doesn't move
abbrev pub LiesInside : (size length : ℕ) → Standing → Position → Type 0
LiesInside size length (Relocatable alignment kind) (position.Relocatable a (Some frame)) = a + length ≤ size
LiesInside size length (Absolute frame offset) (position.Absolute a own) = Unit {0}
LiesInside size length standing place = ⊥

-- each segment and each GRPDEF of a module has a place
pub record ArePlacesOf (size : ℕ) (m : Module) (places : ModulePlaces) : Type 0 where
  pub segments : length places.segments ≡ length m.segments
  pub groups : length places.groups ≡ length m.groups
  pub each : (i : ℕ) (s : Segment) → slice_get m.segments i ≡ Some s →
      LiesInside size s.length s.standing (segment_in places i)

-- what may be relied on of a layout: no number in it is out of range
pub record IsBounded (program : List Module) (layout : Layout) : Type 0 where
  pub size : layout.size ≤ 1048560
  pub modules : length layout.modules ≡ length program
  pub each : (i : ℕ) (m : Module) → slice_get program i ≡ Some m → ArePlacesOf layout.size m (places_of layout i)
  -- every byte of a combined segment lies in its frame
  pub combined : (i : ℕ) (c : Combined) → slice_get layout.combined i ≡ Some c → c.end ≤ 16 * (c.start / 16) + 65536
  -- each module has its local publics
  pub scopes : length layout.locals ≡ length program
