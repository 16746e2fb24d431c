-- By how many bytes what is placed is longer than it may be.
use Rattle.std.specs.Prelude.{◌≡◌, ℕ, ◌+◌, ◌-◌, ◌*◌, ◌/◌, nat_lt, List, ◌∷◌, ◌++◌, find, map, Option}
use Rattle.std.specs.Option.{option_map_or}
use Rattle.omf_module.specs.Module.{Module}
use Rattle.omf_place.specs.Parts.{Site, sites}
use Rattle.omf_place.specs.Placed.{IsPlaced}
use Rattle.omf_place.specs.Tables.{segment_frame, segment_end, leaders, group_span, grpdefs}

-- how far an end is above the 65,536 bytes of its frame
abbrev pub excess_in : (frame end : ℕ) → ℕ
excess_in frame end = end - (16 * frame + 65536)

-- how far a combined segment is, by its first part
abbrev pub segment_excess : List Site → (addresses : List ℕ) → Site → ℕ
segment_excess ss addresses a = excess_in (segment_frame ss addresses a) (segment_end ss addresses a)

-- how far a group is, by its name
abbrev pub group_excess : List Module → (addresses : List ℕ) → List ℕ → ℕ
group_excess program addresses name =
    option_map_or (λ s. excess_in (s.0 / 16) s.1) (group_span program addresses name) 0

-- those of the combined segments, in the order of placement
abbrev pub segment_excesses : List Site → (addresses : List ℕ) → List ℕ
segment_excesses ss addresses = map (segment_excess ss addresses) (leaders ss)

-- those of the groups, in order of first meeting
abbrev pub group_excesses : List Module → (addresses : List ℕ) → List ℕ
group_excesses program addresses = map (λ g. group_excess program addresses g.name) (grpdefs program)

-- By how many bytes each is longer than it may be, and 0 where it isn't, in the order of their faults: the combined
-- segments (22), the program (23) and the groups (24).
abbrev pub excesses : List Module → (addresses : List ℕ) → (size : ℕ) → List ℕ
excesses program addresses size =
    segment_excesses (sites program) addresses ++ (size - 1048560) ∷ group_excesses program addresses

-- The first that isn't 0, where the parts of the program start at the only addresses by the rules: it is that of what
-- the fault names by which the program has no layout. None where none of these faults stands.
abbrev pub IsExcessOf : List Module → Option ℕ → Type 0
IsExcessOf program given = (addresses : List ℕ) × (size : ℕ) × IsPlaced (sites program) addresses size
    × ((others : List ℕ) (end : ℕ) → IsPlaced (sites program) others end → (others ≡ addresses) × (end ≡ size))
    × (given ≡ find (nat_lt 0) (excesses program addresses size))
