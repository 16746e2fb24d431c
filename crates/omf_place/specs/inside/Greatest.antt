-- The greatest of what is asked of the parts of each combined segment.
use Rattle.std.specs.Prelude.{◌≡◌, ℕ, ◌+◌, ◌<◌, ◌^◌, max, ◌==◌, List, [], ◌∷◌, if◌then◌else◌, length, slice_index}
use Rattle.std.specs.List.{AllByRecursion}
use Rattle.omf_place.specs.declared.greatest.Asked.{Asked}
use Rattle.omf_place.specs.declared.greatest.Asked.TheVariants.{Alignment, Length, End}
use Rattle.omf_place.specs.Parts.{Site}
use Rattle.omf_place.specs.inside.Ranks.{rank}
use Rattle.omf_place.specs.Placed.{address_of, alignment_of, greatest, members}

-- the greatest value of those first met at a place
abbrev pub greatest_at : (firsts values : List ℕ) → (place : ℕ) → ℕ
greatest_at [] vs place = 0
greatest_at fs [] place = 0
greatest_at (f ∷ fs) (v ∷ vs) place = max (if f == place then v else 0) (greatest_at fs vs place)

-- what a segment answers
abbrev pub answer : Asked → Site → ℕ
answer Alignment a = alignment_of a.segment.standing
answer Length a = a.segment.length
answer (End addresses) a = address_of addresses.now a + a.segment.length

-- where its end is asked, a segment has an address, and one that a length may be added to
abbrev pub CanAnswer : Asked → Site → Type 0
CanAnswer (End addresses) a = (a.position < length addresses.now) × (address_of addresses.now a < 2 ^ 127)
CanAnswer asked a = Unit {0}

-- a table has, at the place of each combined segment, the greatest of its parts
abbrev pub HoldsGreatest : List Site → (Site → ℕ) → (table : List ℕ) → Type 0
HoldsGreatest ss f table = AllByRecursion (λ a. slice_index table (rank ss a).segment ≡ greatest f (members ss a)) ss
