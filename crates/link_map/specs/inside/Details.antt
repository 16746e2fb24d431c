-- How the code makes the detailed map.
use Rattle.std.specs.Prelude.{◌≡◌, ℕ, ◌<◌, List, [], ◌∷◌, get_or, length, map, slice_set, Some, None}
use Rattle.std.specs.declared.option.Option.{Option}
use Rattle.std.specs.Option.{option_map}
use Rattle.omf_module.specs.Module.{Group, Module}
use Rattle.link_map.specs.Detailed.{Part, group_of}
use Rattle.link_map.specs.declared.part.ListedPart.{ListedPart}
use Rattle.link_map.specs.inside.Listed.{seen}

-- a part as the code has it
abbrev pub part_seen : ListedPart → Part
part_seen part = record {
  address = part.address;
  place = seen part.place;
  length = part.length;
  class = part.class.now;
  group = part.group.now;
  module_name = part.module_name.now;
  attributes = part.attributes;
}

-- all of them
abbrev pub all_parts : List ListedPart → List Part
all_parts parts = map part_seen parts

-- a table with a value at these places
abbrev pub filled : {X : Type 0} → X → (places : List ℕ) → List X → List X
filled x [] table = table
filled x (place ∷ places) table = filled x places (slice_set table place x)

-- a table with the index of the first of these GRPDEFs at each of their components
abbrev pub with_groups : List (ℕ × Group) → List (Option ℕ) → List (Option ℕ)
with_groups [] table = table
with_groups ((index, group) ∷ groups) table = filled (Some index) group.members (with_groups groups table)

-- the index of a group's GRPDEF
abbrev pub index_of : Option (ℕ × Group) → Option ℕ
index_of group = option_map (λ (p : ℕ × Group). p.0) group

-- of each segment of a module the index of its group's GRPDEF
pub record HasGroups (m : Module) (table : List (Option ℕ)) : Type 0 where
  pub len : length table ≡ length m.segments
  pub each : (segment : ℕ) → segment < length m.segments
      → get_or table segment None ≡ index_of (group_of m.groups segment)
