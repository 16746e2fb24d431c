-- A layout, and what it is of a program.
use Rattle.std.specs.Prelude.{ℕ, List, [], get_or, length, map, Option, None, Some}
use Rattle.std.specs.List.{range_with_len}
use Rattle.omf_module.specs.Module.{Module}
use Rattle.omf_place.specs.Parts.{sites}
use Rattle.omf_place.specs.Parts.{Input, inputs}
use Rattle.omf_place.specs.Names.{Table, means}
use Rattle.omf_place.specs.Scopes.{table}
use Rattle.omf_place.specs.Tables.{placed_at, leaders, combined_segment, frame_of_group, placed_groups}
use Rattle.omf_place.specs.Tables.{placed_publics}
use Rattle.omf_place.specs.declared.layout.Combined.{Combined}
use Rattle.omf_place.specs.declared.layout.GroupPlace.{GroupPlace}
use Rattle.omf_place.specs.declared.layout.Position.{Position}
use Rattle.omf_place.specs.declared.layout.Position.TheVariants.{Absolute}
use Rattle.omf_place.specs.declared.names.Names.{Names}
use Rattle.omf_place.specs.declared.names.Names.TheVariants.{Exact}

-- the segments of a module, and the frames of its GRPDEFs' groups: a group without members has none
pub record ModulePlaces : Type 0 where
  pub segments : List Position
  pub groups : List (Option ℕ)

-- where everything of a program stands
pub record Layout : Type 0 where
  pub size : ℕ
  -- by input
  pub modules : List ModulePlaces
  -- in the order of placement
  pub combined : List Combined
  -- in order of first meeting
  pub groups : List GroupPlace
  -- each with its name, in order of inputs and records
  pub publics : Table Position
  -- the local publics of each module, by input
  pub locals : List (Table Position)

-- the places of a module of a program, by the addresses of the program's segments
abbrev pub module_places : List Module → (addresses : List ℕ) → Input → ModulePlaces
module_places program addresses n = record {
  segments = map (λ a. placed_at (sites program) addresses a a.segment.standing) n.sites;
  groups = map (λ g. frame_of_group program addresses g.name) n.says.groups;
}

-- under a choice of which names of publics agree
abbrev pub layout_at : Names → List Module → (addresses : List ℕ) → (size : ℕ) → Layout
layout_at names program addresses size = record {
  size = size;
  modules = map (module_places program addresses) (inputs program);
  combined = map (combined_segment (sites program) addresses) (leaders (sites program));
  groups = placed_groups program addresses;
  publics = table names None (placed_publics program addresses);
  locals = map (λ n. table names (Some n) (placed_publics program addresses)) (range_with_len 0 (length program));
}

-- The places of a module, by its index among the inputs; what is out of range isn't looked at.
abbrev pub places_of : Layout → (input : ℕ) → ModulePlaces
places_of layout input = get_or layout.modules input (record { segments = []; groups = [] })

-- the place of a segment of a module; what is out of range isn't looked at
abbrev pub segment_in : ModulePlaces → (segment : ℕ) → Position
segment_in places segment = get_or places.segments segment (Absolute 0 0)

-- where a segment of a module stands, by their indexes; what is out of range isn't looked at
abbrev pub segment_position : Layout → (input segment : ℕ) → Position
segment_position layout input segment = get_or (places_of layout input).segments segment (Absolute 0 0)

-- the frame of a GRPDEF's group, if it has one
abbrev pub group_frame : Layout → (input group : ℕ) → Option ℕ
group_frame layout input group = get_or (places_of layout input).groups group None

-- what a name means to all modules
abbrev pub public : Layout → (name : List ℕ) → Option Position
public layout name = means layout.publics name

-- what it means in one module alone
abbrev pub local_public : Layout → (input : ℕ) → (name : List ℕ) → Option Position
local_public layout input name = means (get_or layout.locals input (record { names = Exact; entries = [] })) name
