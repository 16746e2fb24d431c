-- Whether a class stands in one frame (TIS OMF 1.1, SEGDEF, the class name). The parts of a class stand together in the
-- order of placement.
use Rattle.std.specs.Prelude.{◌≡◌, ℕ, ◌/◌, ◌&&◌, Bool, true, not, List, filter, Option}
use Rattle.std.specs.Option.{option_map_or}
use Rattle.std.specs.Str.{bytes_eq}
use Rattle.omf_module.specs.Module.{Module}
use Rattle.omf_place.specs.Parts.{Site, sites, is_part}
use Rattle.omf_place.specs.Placed.{IsPlaced}
use Rattle.omf_place.specs.Tables.{span}
use Rattle.omf_place.specs.Faults.{is_too_long}

-- a part of a class
abbrev pub is_of : (class : List ℕ) → Site → Bool
is_of class a = is_part a && bytes_eq a.segment.class class

-- the least start and the greatest end of a class, where it has parts: of their combined segments
abbrev pub class_span : List Site → (addresses class : List ℕ) → Option (ℕ × ℕ)
class_span ss addresses class = span ss addresses (filter (is_of class) ss)

-- it ends at most 65,536 bytes above the paragraph of its start; so does one without parts
abbrev pub class_fits : List Site → (addresses class : List ℕ) → Bool
class_fits ss addresses class =
    option_map_or (λ s. not (is_too_long (s.0 / 16) s.1)) (class_span ss addresses class) true

-- This says whether a class of a program stands in one frame, at the only addresses where its parts stand.
abbrev pub TellsFit : List Module → (class : List ℕ) → Bool → Type 0
TellsFit program class fits = (addresses : List ℕ) × (size : ℕ) × IsPlaced (sites program) addresses size
    × ((others : List ℕ) (end : ℕ) → IsPlaced (sites program) others end → (others ≡ addresses) × (end ≡ size))
    × (fits ≡ class_fits (sites program) addresses class)
