-- Segments as a SEGDEF defines them (TIS OMF 1.1, SEGDEF).
use Rattle.std.specs.Prelude.{ℕ, ◌==◌, if◌then◌else◌}
use Rattle.omf_record.specs.declared.segments.Alignment.{Alignment}
use Rattle.omf_record.specs.declared.segments.Combination.{Combination}
use Rattle.omf_record.specs.declared.segments.SegmentDefinition.{SegmentDefinition}
use Rattle.omf_record.specs.declared.segments.SegmentLength.{SegmentLength}
use Rattle.omf_record.specs.declared.segments.SegmentLength.TheVariants as len

-- how a SEGDEF says a length of at most 65,536 bytes
abbrev pub length_of : ℕ → SegmentLength
length_of length = if length == 65536 then len.Whole else len.Word length

-- a segment of so many bytes, with these indexes of its name and its class, and without an overlay
abbrev pub segment_of_length : Alignment → Combination → (length name class : ℕ) → SegmentDefinition
segment_of_length alignment combination length name class = record {
  alignment = alignment;
  combination = combination;
  length = length_of length;
  name = name;
  class = class;
  overlay = 0;
}
