-- What is known of a module from its records so far.
use Rattle.std.specs.Prelude.{ℕ, zero, suc, Bool, false, if◌then◌else◌, List, [], ◌∷◌, ◌++◌, slice_index_or, None}
use Rattle.std.specs.declared.option.Option.{Option}
use Rattle.omf_record.specs.Record.{Record, Lnames, Grpdef, Ledata, Lidata}
use Rattle.omf_wide.specs.Said.{Said, Plain, Segdef}
use Rattle.omf_wide.specs.declared.segments.WideSegment.{WideSegment}
use Rattle.omf_plain.specs.Data.{Data, Absent, KeptOut, Stored, Repeated, WideRepeated, contents, wide_contents}
use Rattle.omf_plain.specs.Flat.{is_flat_group}
use Rattle.omf_plain.specs.Given as given
use Rattle.omf_plain.specs.Given.{Given, Narrow, Wide}
use Rattle.omf_plain.specs.Segments.{is_kept_out}

pub record Seen : Type 0 where
  -- the names of LNAMES and LLNAMES
  pub names : List (List ℕ)
  -- the segments of SEGDEFs, as they are given
  pub segments : List WideSegment
  -- of each whether it is kept out
  pub kept_out : List Bool
  -- of each group whether it is FLAT
  pub flat : List Bool
  -- the last record of data
  pub last : Data
  -- how many COMDAT records there were
  pub comdats : ℕ
  -- how many segments they opened, which stand behind those of SEGDEFs
  pub opened : ℕ
  -- the index of the segment of the last COMDAT record; none where its data is kept out
  pub current : Option ℕ

-- before the first record
abbrev pub nothing_seen : Seen
nothing_seen = record {
  names = [];
  segments = [];
  kept_out = [];
  flat = [];
  last = Absent;
  comdats = 0;
  opened = 0;
  current = None;
}

-- the segment with this index, from 1 on, is kept out
abbrev pub is_out : List Bool → ℕ → Bool
is_out kept_out zero = false
is_out kept_out (suc before) = slice_index_or kept_out before false

-- data of a segment, unless that is kept out
abbrev pub kept_data : List Bool → (segment : ℕ) → Data → Data
kept_data kept_out segment data' = if is_out kept_out segment then KeptOut else data'

-- behind one of the fourteen, or one that says what one of them does
abbrev pub seen_after_record : Seen → Record → Seen
seen_after_record seen (Lnames names) = record seen { names = seen.names ++ names }
seen_after_record seen (Grpdef name segments) =
    record seen { flat = seen.flat ++ (is_flat_group seen.names name ∷ []) }
seen_after_record seen (Ledata segment offset bytes) =
    record seen { last = kept_data seen.kept_out segment (Stored segment offset bytes) }
seen_after_record seen (Lidata segment offset blocks) =
    record seen { last = kept_data seen.kept_out segment (Repeated (contents blocks)) }
seen_after_record seen _ = seen

-- behind a segment
abbrev pub seen_after_segment : (keep_debug : Bool) → Seen → WideSegment → Seen
seen_after_segment keep_debug seen s = record seen {
  segments = seen.segments ++ (s ∷ []);
  kept_out = seen.kept_out ++ (is_kept_out keep_debug seen.names s.class ∷ []);
}

-- behind one of 32 bits, or like it
abbrev pub seen_after_said : (keep_debug : Bool) → Seen → Said → Seen
seen_after_said keep_debug seen (Plain r) = seen_after_record seen r
seen_after_said keep_debug seen (Segdef wide s) = seen_after_segment keep_debug seen s
seen_after_said keep_debug seen _ = seen

-- behind a record that is no COMDAT
abbrev pub seen_after : (keep_debug : Bool) → Seen → Given → Seen
seen_after keep_debug seen (Narrow r) = seen_after_record seen r
seen_after keep_debug seen (Wide said) = seen_after_said keep_debug seen said
seen_after keep_debug seen (given.Data segment offset bytes) =
    record seen { last = kept_data seen.kept_out segment (Stored segment offset bytes) }
seen_after keep_debug seen (given.Repeated segment offset blocks) =
    record seen { last = kept_data seen.kept_out segment (WideRepeated (wide_contents blocks)) }
seen_after keep_debug seen _ = seen
