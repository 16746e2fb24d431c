-- The bytes of an image that none of some spans has.
use Rattle.std.specs.Prelude.{ℕ, ◌+◌, ◌-◌, ◌==◌, ◌&&◌, ◌||◌, not, Bool, true, nat_le, nat_lt, List, length, map, filter}
use Rattle.std.specs.Prelude.{drop, slice_index_or}
use Rattle.std.specs.List.{list_any, prefix_len, range_with_len}
use Rattle.byte_places.specs.declared.spans.Span.{Span}

-- a span has the byte at a place
abbrev pub is_in : (place : ℕ) → Span → Bool
is_in place span = nat_le span.start place && nat_lt place span.end

-- of each byte of an image of this length, whether one of the spans has it
abbrev pub flags : List Span → (len : ℕ) → List Bool
flags spans len = map (λ place. list_any (is_in place) spans) (range_with_len 0 len)

-- a gap begins where no span has the byte, and one has the byte before it, or none stands before it
abbrev pub begins_gap : List Bool → (place : ℕ) → Bool
begins_gap flags place =
    not (slice_index_or flags place true) && ((place == 0) || slice_index_or flags (place - 1) true)

-- it ends before the next byte that a span has, or with the image
abbrev pub gap_end : List Bool → (start : ℕ) → ℕ
gap_end flags start = start + prefix_len not (drop start flags)

-- the gap that begins at a place
abbrev pub gap_at : List Bool → (start : ℕ) → Span
gap_at flags start = record { start = start; end = gap_end flags start }

-- those between the flags, in rising order
abbrev pub gaps_between : List Bool → List Span
gaps_between flags = map (gap_at flags) (filter (begins_gap flags) (range_with_len 0 (length flags)))

-- those that spans leave in an image of this length
abbrev pub gaps : List Span → (len : ℕ) → List Span
gaps spans len = gaps_between (flags spans len)
