-- Where variables stand: near ones behind each other in one segment of DGROUP, far ones each in segments of its own.
-- The segments and the group are counted from those on that stand before them in their module.
use Rattle.std.specs.Prelude.{ℕ, ◌+◌, ◌-◌, ◌*◌, ◌/◌, ◌%◌, ◌==◌, Bool, not, ◌&&◌, ◌||◌, max, min, nat_lt, nat_le}
use Rattle.std.specs.Prelude.{if◌then◌else◌, List, [], ◌∷◌, ◌++◌, map, Option, Some, None, Ok, Err}
use Rattle.std.specs.declared.result.Result.{Result}
use Rattle.std.specs.List.{range_with_len}
use Rattle.omf_library.specs.Members.{joined}
use Rattle.omf_library.specs.Records.{result_and_then}
use Rattle.omf_communal.specs.declared.declarations.Extent.{Extent}
use Rattle.omf_communal.specs.declared.declarations.Extent.TheVariants.{Near, Far}
use Rattle.omf_communal.specs.declared.fault.PlanFault.{PlanFault}
use Rattle.omf_communal.specs.declared.fault.PlanFault.TheVariants.{NearTooLong, CutElement, TooManySegments}
use Rattle.omf_communal.specs.declared.places.Before.{Before}
use Rattle.omf_communal.specs.Deciding.{Variable}

-- the name of a variable: its group and its segment, 0 for no group, and its offset in the segment
pub record Place : Type 0 where
  pub name : List ℕ
  pub group : ℕ
  pub segment : ℕ
  pub offset : ℕ

-- the greatest length of a segment
abbrev pub segment_limit : ℕ
segment_limit = 65536

-- ---- what stands before the variables

-- the greatest index of a name, a segment or a group
abbrev pub index_limit : ℕ
index_limit = 32767

-- nothing does in a module of their own
abbrev pub nothing_before : Before
nothing_before = record { names = 0; segments = 0; groups = 0 }

-- so many segments stand before them, whose names and groups aren't counted with theirs
abbrev pub segments_before : ℕ → Before
segments_before segments = record { names = 0; segments = segments; groups = 0 }

-- no indexes are left for four names, a segment and a group
abbrev pub is_full : Before → Bool
is_full before =
    nat_lt (index_limit - 4) before.names || (nat_le index_limit before.segments || nat_le index_limit before.groups)

-- ---- near variables

-- where a variable of this length begins behind so many bytes: at an even offset, where it has more than one byte
abbrev pub near_start : (at length : ℕ) → ℕ
near_start at length = if nat_le length 1 then at else at + at % 2

-- where the bytes behind a variable begin
abbrev pub near_next : ℕ → Extent → ℕ
near_next at (Near length) = near_start at length + length
near_next at (Far count size) = at

-- it ends in the segment, and its offset is a word
abbrev pub fits_near : (start length : ℕ) → Bool
fits_near start length = nat_lt start segment_limit && nat_le (start + length) segment_limit

-- the place of a near variable, that with this index, behind so many bytes of the first segment of the variables
abbrev pub near_place : Before → (at index : ℕ) → (name : List ℕ) → Extent → Result (List Place) PlanFault
near_place before at index name (Far count size) = Ok []
near_place before at index name (Near length) =
    if fits_near (near_start at length) length
    then Ok (record {
      name = name;
      group = before.groups + 1;
      segment = before.segments + 1;
      offset = near_start at length;
    } ∷ [])
    else Err (NearTooLong index)

-- the places of the near ones of these variables, the first of which has this index, or the first that is at fault
abbrev pub near_places : Before → (at index : ℕ) → List Variable → Result (List Place) PlanFault
near_places before at index [] = Ok []
near_places before at index (v ∷ vs) =
    result_and_then (λ ps. joined ps (near_places before (near_next at v.extent) (index + 1) vs))
    (near_place before at index v.name v.extent)

-- where they end
abbrev pub near_end : ℕ → List Variable → ℕ
near_end at [] = at
near_end at (v ∷ vs) = near_end (near_next at v.extent) vs

-- ---- far variables

-- how many segments so many bytes need: one at least
abbrev pub part_count : (bytes : ℕ) → ℕ
part_count bytes = max 1 ((bytes + 65535) / segment_limit)

-- their lengths: all but the last are full
abbrev pub part_lengths : (bytes : ℕ) → List ℕ
part_lengths bytes = map (λ k. min segment_limit (bytes - segment_limit * k)) (range_with_len 0 (part_count bytes))

-- an element of this size lies over the edge of a segment, and isn't a whole number of times in one
abbrev pub is_cut : (count size : ℕ) → Bool
is_cut count size = nat_lt segment_limit (count * size) && not (segment_limit % size == 0)

-- the segment behind those of a variable
abbrev pub far_next : ℕ → Extent → ℕ
far_next segment (Near length) = segment
far_next segment (Far count size) = segment + part_count (count * size)

-- the lengths of the segments of a variable
abbrev pub far_lengths_of : Extent → List ℕ
far_lengths_of (Near length) = []
far_lengths_of (Far count size) = part_lengths (count * size)

-- the place of a far variable, that with this index, in this segment and those behind it
abbrev pub far_place : (segment index : ℕ) → (name : List ℕ) → Extent → Result (List Place) PlanFault
far_place segment index name (Near length) = Ok []
far_place segment index name (Far count size) =
    if is_cut count size then Err (CutElement index)
    else if nat_lt (index_limit + 1) (segment + part_count (count * size)) then Err (TooManySegments index)
    else Ok (record { name = name; group = 0; segment = segment; offset = 0 } ∷ [])

-- the places of the far ones of these variables, the first of which has this index, or the first that is at fault
abbrev pub far_places : (segment index : ℕ) → List Variable → Result (List Place) PlanFault
far_places segment index [] = Ok []
far_places segment index (v ∷ vs) =
    result_and_then (λ ps. joined ps (far_places (far_next segment v.extent) (index + 1) vs))
    (far_place segment index v.name v.extent)

-- the lengths of their segments
abbrev pub far_lengths : List Variable → List ℕ
far_lengths [] = []
far_lengths (v ∷ vs) = far_lengths_of v.extent ++ far_lengths vs

-- ---- the whole

-- the segments of variables, and the names in them: the near segment, if there is one, is the first
pub record Plan : Type 0 where
  pub near : Option ℕ
  pub far : List ℕ
  pub places : List Place

-- the near segment, if there are places in it
abbrev pub near_segment : List Place → (end : ℕ) → Option ℕ
near_segment [] end = None
near_segment (p ∷ ps) end = Some end

-- the first far segment, by the places of near variables
abbrev pub far_first : Before → List Place → ℕ
far_first before [] = before.segments + 1
far_first before (p ∷ ps) = before.segments + 2

-- the plan for variables whose near ones have these places
abbrev pub plan_with : Before → List Variable → List Place → Result Plan PlanFault
plan_with before vs near = result_and_then
    (λ far. Ok (record { near = near_segment near (near_end 0 vs); far = far_lengths vs; places = near ++ far }))
    (far_places (far_first before near) 0 vs)

-- the plan for variables behind what stands before them
abbrev pub plan : Before → List Variable → Result Plan PlanFault
plan before vs =
    if is_full before then Err (TooManySegments 0)
    else result_and_then (plan_with before vs) (near_places before 0 0 vs)
