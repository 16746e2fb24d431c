-- The first fault of placement.
use Rattle.std.specs.Prelude.{◌≡◌, ℕ, ◌+◌, ◌*◌, ◌/◌, Bool, nat_lt, List, find, take, Option, Some, None, false}
use Rattle.std.specs.Prelude.{if◌then◌else◌, Result, Ok, Err}
use Rattle.std.specs.List.{enumerate_from, list_any}
use Rattle.std.specs.Option.{option_map, option_map_or, option_or}
use Rattle.omf_module.specs.Module.{Module}
use Rattle.omf_place.specs.Parts.{Site, sites}
use Rattle.omf_place.specs.Placed.{IsPlaced}
use Rattle.omf_place.specs.Tables.{segment_frame, segment_end, leaders, group_span, grpdefs, placed_publics}
use Rattle.omf_place.specs.Layout.{Layout, layout_at}
use Rattle.omf_place.specs.Scopes.{ScopedName, clashes}
use Rattle.omf_place.specs.declared.layout.Position.{Position}
use Rattle.omf_place.specs.declared.names.Names.{Names}

-- why a program has no layout, with the name of the first at fault
pub data PlacementFault : Type 0 where
  SegmentTooLong GroupTooLong DuplicatePublic : (name : List ℕ) → PlacementFault
  ProgramTooLarge : PlacementFault

-- an end is more than 65,536 above its frame
abbrev pub is_too_long : (frame end : ℕ) → Bool
is_too_long frame end = nat_lt (16 * frame + 65536) end

-- fault 22: the first combined segment that is too long, in the order of placement, by the name of its first part
abbrev pub segment_fault : List Site → List ℕ → Option PlacementFault
segment_fault ss addresses = option_map (λ a. SegmentTooLong a.segment.name)
    (find (λ a. is_too_long (segment_frame ss addresses a) (segment_end ss addresses a)) (leaders ss))

-- fault 25: the first public whose name an earlier one has, or an earlier local one of its module where it is local
abbrev pub duplicate_in : Names → List (ScopedName Position) → Option PlacementFault
duplicate_in names publics = option_map (λ p. DuplicatePublic p.1.name)
    (find (λ p. list_any (λ earlier. clashes names earlier p.1) (take p.0 publics)) (enumerate_from 0 publics))

-- fault 24: the first group that ends more than 65,536 above its frame: the GRPDEFs stand in order, so the first that
-- names it is its first
abbrev pub group_fault : List Module → (addresses : List ℕ) → Option PlacementFault
group_fault program addresses = option_map (λ g. GroupTooLong g.name) (find (λ g.
    option_map_or (λ s. is_too_long (s.0 / 16) s.1) (group_span program addresses g.name) false) (grpdefs program))

-- the first in order of number; fault 23 is that of the size
abbrev pub placement_fault : Names → List Module → (addresses : List ℕ) → (size : ℕ) → Option PlacementFault
placement_fault names program addresses size =
    option_or (segment_fault (sites program) addresses)
    (option_or (if nat_lt 1048560 size then Some ProgramTooLarge else None)
    (option_or (group_fault program addresses) (duplicate_in names (placed_publics program addresses))))

-- What a program is placed as, under a choice of which names of publics agree. By the rules its parts start at these
-- addresses and at no others; it is the first fault there, and where no fault stands the layout.
abbrev pub IsPlacedAs : Names → List Module → Result Layout PlacementFault → Type 0
IsPlacedAs names program given = (addresses : List ℕ) × (size : ℕ) × IsPlaced (sites program) addresses size
    × ((others : List ℕ) (end : ℕ) → IsPlaced (sites program) others end → (others ≡ addresses) × (end ≡ size))
    × (given ≡ option_map_or Err (placement_fault names program addresses size)
    (Ok (layout_at names program addresses size)))
