-- Segments (TIS OMF 1.1, "Segment Definition Record"): which are kept out of the program, and what others are with 16
-- bits.
use Rattle.std.specs.Prelude.{ℕ, ◌==◌, Bool, false, not, ◌&&◌, ◌||◌, if◌then◌else◌, nat_lt, List, codes, Ok, Err}
use Rattle.std.specs.declared.result.Result.{Result}
use Rattle.std.specs.Option.{option_map_or}
use Rattle.std.specs.Str.{bytes_eq}
use Rattle.omf_library.specs.Entries.{listed_name}
use Rattle.omf_record.specs.declared.segments.Alignment.TheVariants.{Byte}
use Rattle.omf_record.specs.declared.segments.Combination.TheVariants.{Private}
use Rattle.omf_record.specs.declared.segments.SegmentDefinition.{SegmentDefinition}
use Rattle.omf_record.specs.declared.segments.SegmentLength.{SegmentLength}
use Rattle.omf_record.specs.declared.segments.SegmentLength.TheVariants.{Word, Whole}
use Rattle.omf_wide.specs.declared.segments.WideSegment.{WideSegment}
use Rattle.omf_plain.specs.declared.fault.Obstacle.{Obstacle}
use Rattle.omf_plain.specs.declared.fault.Obstacle.TheVariants.{Above16Bits, Body}
use Rattle.omf_plain.specs.Step.{◌>>=◌}

-- what debuggers read has one of these classes
abbrev pub is_debug : List ℕ → Bool
is_debug class = bytes_eq class (codes "DEBSYM") || bytes_eq class (codes "DEBTYP") || bytes_eq class (codes "DWARF")

-- a segment is kept out unless what debuggers read is kept: its class has this index among the names before it
abbrev pub is_kept_out : (keep_debug : Bool) → (names : List (List ℕ)) → (class : ℕ) → Bool
is_kept_out keep_debug names class = not keep_debug && option_map_or is_debug (listed_name names class) false

-- what stays of one that is kept out: it is private, byte aligned and empty, with its names
abbrev pub nothing_of : WideSegment → SegmentDefinition
nothing_of s = record {
  alignment = Byte;
  combination = Private;
  length = Word 0;
  name = s.name;
  class = s.class;
  overlay = s.overlay;
}

-- The length of a segment of 16 bits. With the bit B, of 16 bits, it is 65,536 and stands as 0; of 32 bits it is
-- 4,294,967,296.
abbrev pub plain_length : (wide big : Bool) → (length : ℕ) → Result SegmentLength Obstacle
plain_length wide big length =
    if big then (if wide then Err Above16Bits else if length == 0 then Ok Whole else Err Body)
    else if nat_lt length 65536 then Ok (Word length)
    else if length == 65536 then Ok Whole
    else Err Above16Bits

-- the same segment, of 16 bits: the bit P says nothing here
abbrev pub plain_segment : (wide : Bool) → WideSegment → Result SegmentDefinition Obstacle
plain_segment wide s = plain_length wide s.big s.length >>= λ length. Ok (record {
  alignment = s.alignment;
  combination = s.combination;
  length = length;
  name = s.name;
  class = s.class;
  overlay = s.overlay;
})
