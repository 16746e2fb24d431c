-- What the code knows of the places of lines.
use Rattle.std.specs.Prelude.{◌≡◌, ℕ, ◌/◌, ◌<◌, length}
use Rattle.std.specs.declared.option.Option.{Option}
use Rattle.std.specs.Option.{option_map_or}
use Rattle.omf_module.specs.Module.{Module}
use Rattle.omf_place.specs.Layout.{Layout, places_of}
use Rattle.link_map.specs.Public.{listed_frame}

-- each segment and each GRPDEF of the module that is the input with this index has a place
pub record HasPlaces (layout : Layout) (index : ℕ) (m : Module) : Type 0 where
  pub input : index < length layout.modules
  pub segments : length (places_of layout index).segments ≡ length m.segments
  pub groups : length (places_of layout index).groups ≡ length m.groups

-- the frame that an address is listed with
abbrev pub framed : (address : ℕ) → Option ℕ → ℕ
framed address frame = option_map_or (listed_frame address) frame (address / 16)
