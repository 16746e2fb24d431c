-- Names, groups, publics and faults, one step at a time.
use Rattle.std.specs.Prelude.{ℕ, Bool, nat_eq, nat_lt, List, [], filter, flat_map, take, slice_get, Option, Some, None}
use Rattle.std.specs.Prelude.{if◌then◌else◌}
use Rattle.std.specs.Bool.{then_some}
use Rattle.std.specs.List.{list_any}
use Rattle.std.specs.Option.{option_eq, option_or, option_to_list}
use Rattle.omf_module.specs.Module.{Module, PublicSymbol}
use Rattle.omf_place.specs.Parts.{Site}
use Rattle.omf_place.specs.Names.{Table}
use Rattle.omf_place.specs.Scopes.{ScopedName, clashes}
use Rattle.omf_place.specs.Tables.{Grpdef, segment_frame, segment_end, frame_of_group, placed_publics}
use Rattle.omf_place.specs.Faults.{PlacementFault, ProgramTooLarge, is_too_long, group_fault, duplicate_in}
use Rattle.omf_place.specs.declared.layout.GroupPlace.{GroupPlace}
use Rattle.omf_place.specs.declared.layout.Position.{Position}
use Rattle.omf_place.specs.declared.names.Names.{Names}

-- a table without names
abbrev pub empty : {V : Type 0} → Names → Table V
empty names = record { names = names; entries = [] }

-- two names are known to the same
abbrev pub same_owner : Option ℕ → Option ℕ → Bool
same_owner one other = option_eq nat_eq one other

-- the entries of an owner
abbrev pub owned_by : {V : Type 0} → Option ℕ → List (ScopedName V) → List (ScopedName V)
owned_by owner es = filter (λ e. same_owner owner e.owner) es

-- an entry, by its place, whose name an earlier one has
abbrev pub repeats : {V : Type 0} → Names → List (ScopedName V) → ℕ × ScopedName V → Bool
repeats names es p = list_any (λ earlier. clashes names earlier p.1) (take p.0 es)

-- the sites of a GRPDEF's components, by their indexes in the module
abbrev pub components : List Site → List ℕ → List Site
components row members = flat_map (λ k. option_to_list (slice_get row k)) members

-- a group, by its first GRPDEF
abbrev pub placed_group : List Module → (addresses : List ℕ) → Grpdef → GroupPlace
placed_group program addresses g =
    record { frame = frame_of_group program addresses g.name; input = g.input; group = g.group }

-- a local public is one of its module alone
abbrev pub public_entry : (input : ℕ) → PublicSymbol → Position → ScopedName Position
public_entry input p placed = record { owner = then_some p.local input; name = p.name; value = placed }

-- fault 22: a combined segment is too long
abbrev pub is_long_segment : List Site → List ℕ → Site → Bool
is_long_segment ss addresses a = is_too_long (segment_frame ss addresses a) (segment_end ss addresses a)

-- fault 23
abbrev pub size_fault : ℕ → Option PlacementFault
size_fault size = if nat_lt 1048560 size then Some ProgramTooLarge else None

-- of 24 and 25 the first
abbrev pub later_fault : Names → List Module → (addresses : List ℕ) → Option PlacementFault
later_fault names program addresses =
    option_or (group_fault program addresses) (duplicate_in names (placed_publics program addresses))
