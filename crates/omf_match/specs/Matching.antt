-- Where a segment of a module stands in the image of a program. A linker places it at a multiple of its alignment
-- (TIS OMF 1.1, "SEGDEF", the field A); the image begins at address 0.
use Rattle.std.specs.Prelude.{ℕ, nat_le, if◌then◌else◌, List, [], filter, length, map, take, slice_get}
use Rattle.std.specs.Prelude.{is_some, unwrap_or, Some, None}
use Rattle.std.specs.List.{flat_map, range_with_len}
use Rattle.std.specs.declared.option.Option.{Option}
use Rattle.std.specs.Option.{option_map_or}
use Rattle.omf_module.specs.declared.Standing.{Standing}
use Rattle.omf_module.specs.declared.Standing.TheVariants.{Absolute, Relocatable}
use Rattle.omf_module.specs.Module.{Module}
use Rattle.byte_places.specs.Places.{places}
use Rattle.omf_match.specs.declared.finding.Stand.{Stand}
use Rattle.omf_match.specs.Pattern.{pattern_of}

-- what the address of a segment is a multiple of
abbrev pub alignment_of : Standing → ℕ
alignment_of (Absolute frame offset) = 1
alignment_of (Relocatable alignment kind) = alignment

-- that of a segment of a module
abbrev pub segment_alignment : Module → (segment : ℕ) → ℕ
segment_alignment m segment = option_map_or (λ s. alignment_of s.standing) (slice_get m.segments segment) 1

-- The first places of a segment in an image, so many at most. It is looked for where 8 of its bytes are known: in an
-- image of a megabyte of random bytes it is found by chance once in 2 ^ 44 times.
abbrev pub places_of : Module → (segment : ℕ) → (image : List ℕ) → (limit : ℕ) → Option (List ℕ)
places_of m segment image limit =
    if nat_le 8 (length (filter is_some (pattern_of m segment)))
    then Some (take limit (places (pattern_of m segment) (segment_alignment m segment) image)) else None

-- the segment stands at a place
abbrev pub stand : (segment place : ℕ) → Stand
stand segment place = record { segment = segment; place = place }

-- where a segment stands: its first 16 places
abbrev pub segment_stands : Module → (image : List ℕ) (segment : ℕ) → List Stand
segment_stands m image segment = map (stand segment) (unwrap_or (places_of m segment image 16) [])

-- the segments that stand, in their order
unfoldable pub stands : Module → (image : List ℕ) → List Stand
stands m image = flat_map (segment_stands m image) (range_with_len 0 (length m.segments))
