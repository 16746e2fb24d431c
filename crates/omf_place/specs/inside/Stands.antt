-- Where segments stand, as the code holds it.
use Rattle.std.specs.Prelude.{◌≡◌, ℕ, ◌+◌, ◌*◌, ◌/◌, ◌≤◌, true, List, Some}
use Rattle.omf_module.specs.declared.Standing.{Standing}
use Rattle.omf_module.specs.declared.Standing.TheVariants.{Absolute, Relocatable}
use Rattle.omf_place.specs.declared.layout.Position.{Position}
use Rattle.omf_place.specs.declared.layout.Position.TheVariants as position
use Rattle.omf_place.specs.declared.spans.SegmentSpan.{SegmentSpan}
use Rattle.omf_place.specs.declared.stands.Stand.{Stand}
use Rattle.omf_place.specs.Parts.{Site, is_part}
use Rattle.omf_place.specs.inside.Spans.{span_of}
use Rattle.omf_place.specs.Tables.{segment_start}

-- a span in narrow numbers, with its frame
abbrev pub stand_by : Standing → SegmentSpan → Stand
stand_by (Absolute frame offset) s = record { address = s.address; frame = frame; end = s.end }
stand_by (Relocatable alignment kind) s = record { address = s.address; frame = s.start / 16; end = s.end }

-- the stand of a site
abbrev pub stand_of : List Site → List ℕ → Site → Stand
stand_of ss addresses a = stand_by a.segment.standing (span_of ss addresses a)

-- the frame of a part fits its word
abbrev pub IsFramed : Standing → SegmentSpan → Type 0
IsFramed (Absolute frame offset) s = Unit {0}
IsFramed (Relocatable alignment kind) s = s.start ≤ 1048560

-- the combined segment of a part starts in the first 1,048,560 bytes
abbrev pub StartsLow : List Site → List ℕ → Site → Type 0
StartsLow ss addresses a = is_part a ≡ true → segment_start ss addresses a ≤ 1048560

-- the place of a segment, by its stand
abbrev pub placed_by : Standing → Stand → Position
placed_by (Absolute frame offset) s = position.Absolute (16 * frame + offset) frame
placed_by (Relocatable alignment kind) s = position.Relocatable s.address (Some s.frame)
