-- Where the parts start (TIS OMF 1.1, SEGDEF, the alignment): a relation between the segments and their addresses.
use Rattle.std.specs.Prelude.{◌≡◌, ℕ, ◌+◌, ◌*◌, ◌%◌, ◌<◌, ◌≤◌, max, Bool, false, ◌==◌, ◌&&◌, ◌||◌, not, List, [], ◌∷◌}
use Rattle.std.specs.Prelude.{length, filter, fold, slice_index, if◌then◌else◌}
use Rattle.omf_module.specs.declared.Kind.TheVariants.{Stack, Common}
use Rattle.omf_module.specs.declared.Standing.{Standing}
use Rattle.omf_module.specs.declared.Standing.TheVariants.{Absolute, Relocatable}
use Rattle.std.specs.List.{AllByRecursion}
use Rattle.omf_place.specs.Parts.{Site, is_kind, combines, first_of_segment, placement_order}

-- the greatest of what is asked of each; 0 of none
abbrev pub greatest : {X : Type 0} → (X → ℕ) → List X → ℕ
greatest f xs = fold (λ most x. max most (f x)) 0 xs

-- the alignment of a segment in bytes: an absolute one has none, and counts as 1
abbrev pub alignment_of : Standing → ℕ
alignment_of (Absolute frame offset) = 1
alignment_of (Relocatable alignment kind) = alignment

-- the parts of the combined segment of a
abbrev pub members : List Site → Site → List Site
members ss a = filter (combines a) ss

-- the first part of its combined segment
abbrev pub leads : List Site → Site → Bool
leads ss a = first_of_segment ss a == a.position

-- Each part is placed by itself, and the parts of a common segment are placed as one.
abbrev pub is_unit : List Site → Site → Bool
is_unit ss a = not (is_kind Common a.segment.standing) || leads ss a

-- the greatest alignment of a common segment; a part of a stack that isn't its first follows without a gap
abbrev pub unit_alignment : List Site → Site → ℕ
unit_alignment ss a =
    if is_kind Common a.segment.standing then greatest (λ b. alignment_of b.segment.standing) (members ss a)
    else if is_kind Stack a.segment.standing && not (leads ss a) then 1 else alignment_of a.segment.standing

-- a common segment is as long as its longest part
abbrev pub unit_length : List Site → Site → ℕ
unit_length ss a =
    if is_kind Common a.segment.standing then greatest (λ b. b.segment.length) (members ss a) else a.segment.length

-- a multiple of the alignment, not below the end before it, and less than one alignment above that end
abbrev pub IsNextStart : (end alignment start : ℕ) → Type 0
IsNextStart end alignment start = (start % alignment ≡ 0) × (end ≤ start) × (start < end + alignment)

-- addresses has the address of each segment's first byte, by position
abbrev pub address_of : List ℕ → Site → ℕ
address_of addresses a = slice_index addresses a.position

-- the units stand one after the other from an end to the size
abbrev pub FollowFrom : List Site → List ℕ → ℕ → List Site → ℕ → Type 0
FollowFrom ss addresses end [] size = size ≡ end
FollowFrom ss addresses end (u ∷ us) size =
    IsNextStart end (unit_alignment ss u) (address_of addresses u)
    × FollowFrom ss addresses (address_of addresses u + unit_length ss u) us size

-- a part that isn't placed by itself starts with the first part of its combined segment, and an absolute segment
-- stands where it says
abbrev pub StandsAside : List Site → List ℕ → Site → Standing → Type 0
StandsAside ss addresses a (Absolute frame offset) = address_of addresses a ≡ 16 * frame + offset
StandsAside ss addresses a (Relocatable alignment kind) =
    is_unit ss a ≡ false → address_of addresses a ≡ slice_index addresses (first_of_segment ss a)

-- the addresses of the segments, by position, and the size of the program, by the rules
pub record IsPlaced (ss : List Site) (addresses : List ℕ) (size : ℕ) : Type 0 where
  pub each : length addresses ≡ length ss
  pub units : FollowFrom ss addresses 0 (filter (is_unit ss) (placement_order ss)) size
  pub others : AllByRecursion (λ a. StandsAside ss addresses a a.segment.standing) ss
