-- The spans of combined segments, as the code holds them.
use Rattle.std.specs.Prelude.{◌≡◌, ℕ, ◌<◌, ◌^◌, List, map}
use Rattle.omf_place.specs.declared.spans.SegmentSpan.{SegmentSpan}
use Rattle.omf_place.specs.Parts.{Site}
use Rattle.omf_place.specs.Placed.{address_of}
use Rattle.omf_place.specs.Tables.{segment_start, segment_end}

-- the span of a site
abbrev pub span_of : List Site → List ℕ → Site → SegmentSpan
span_of ss addresses a =
    record { address = address_of addresses a; start = segment_start ss addresses a; end = segment_end ss addresses a }

-- the addresses of the segments, by position
abbrev pub addresses_in : List SegmentSpan → List ℕ
addresses_in spans = map (λ s. s.address) spans

-- the spans of the sites, by position
abbrev pub AreSpans : List Site → List SegmentSpan → Type 0
AreSpans ss spans = spans ≡ map (span_of ss (addresses_in spans)) ss

-- each of its numbers fits a word of 21 bits
pub record IsLow (s : SegmentSpan) : Type 0 where
  pub address : s.address < 2 ^ 21
  pub start : s.start < 2 ^ 21
  pub end : s.end < 2 ^ 21
