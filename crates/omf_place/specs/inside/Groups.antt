-- Groups as the code gathers them.
use Rattle.std.specs.Prelude.{◌≡◌, ℕ, ◌/◌, min, max, List, filter, find, fold, map, Option, Some, None, slice_index_or}
use Rattle.std.specs.List.{flat_map}
use Rattle.std.specs.Option.{option_map}
use Rattle.std.specs.Str.{bytes_eq}
use Rattle.omf_place.specs.declared.groups.GroupEntry.{GroupEntry}
use Rattle.omf_place.specs.declared.groups.Grpdef as held
use Rattle.omf_place.specs.declared.groups.Reach.{Reach}
use Rattle.omf_place.specs.declared.stands.Stand.{Stand}
use Rattle.omf_place.specs.Parts.{Site, sites}
use Rattle.omf_place.specs.Tables.{Grpdef, grpdefs, span}
use Rattle.omf_place.specs.inside.Named.{value_of}
use Rattle.omf_module.specs.Module.{Module}

-- what a segment reaches with others before it
abbrev pub widened : Option Reach → Stand → Reach
widened None s = record { frame = s.frame; end = s.end }
widened (Some r) s = record { frame = min r.frame s.frame; end = max r.end s.end }

-- for an index that is out of range
abbrev pub no_stand : Stand
no_stand = record { address = 0; frame = 0; end = 0 }

-- what some segments of a module reach
abbrev pub reach_in : List Stand → (members : List ℕ) → Option Reach
reach_in stands members = fold (λ r k. Some (widened r (slice_index_or stands k no_stand))) None members

-- what two lists of segments reach together
abbrev pub join : (one other : Option Reach) → Option Reach
join None other = other
join (Some r) None = Some r
join (Some r) (Some s) = Some (record { frame = min r.frame s.frame; end = max r.end s.end })

-- a span in narrow numbers: its frame and its end
abbrev pub reach_of_span : ℕ × ℕ → Reach
reach_of_span s = record { frame = s.0 / 16; end = s.1 }

-- a GRPDEF with what its components reach
pub record GroupReach : Type 0 where
  pub input : ℕ
  pub group : ℕ
  pub name : List ℕ
  pub reach : Option Reach

-- as a value
abbrev pub grpdef_view : held.Grpdef → GroupReach
grpdef_view g = record { input = g.input; group = g.group; name = g.name.now; reach = g.reach }

-- the group of a name, with one GRPDEF more
abbrev pub entry_with : Option GroupEntry → GroupReach → GroupEntry
entry_with None g = record { reach = g.reach; input = g.input; group = g.group }
entry_with (Some e) g = record { reach = join e.reach g.reach; input = e.input; group = e.group }

-- where the segments stand
module _ (ss : List Site) (addresses : List ℕ) where
  -- a GRPDEF with what its components reach
  abbrev pub reached : Grpdef → GroupReach
  reached g = record {
    input = g.input;
    group = g.group;
    name = g.name;
    reach = option_map reach_of_span (span ss addresses g.sites);
  }

  -- of some GRPDEFs those of one name, as a group with its first
  abbrev pub entry_in : List Grpdef → (name : List ℕ) → Option GroupEntry
  entry_in gs name = option_map (λ f. record {
    reach = option_map reach_of_span
        (span ss addresses (flat_map (λ g. g.sites) (filter (λ g. bytes_eq name g.name) gs)));
    input = f.input;
    group = f.group;
  }) (find (λ f. bytes_eq name f.name) gs)

-- the GRPDEFs of a program
abbrev pub AreGrpdefs : List Module → (addresses : List ℕ) → List held.Grpdef → Type 0
AreGrpdefs program addresses gs = map grpdef_view gs ≡ map (reached (sites program) addresses) (grpdefs program)

-- the groups of a program
abbrev pub AreGroups : List Module → (addresses : List ℕ) → List (List ℕ × GroupEntry) → Type 0
AreGroups program addresses groups =
    (name : List ℕ) → value_of groups name ≡ entry_in (sites program) addresses (grpdefs program) name
