-- A module whose segments have other lengths (TIS OMF 1.1, SEGDEF, the segment length): its data has to lie in them
-- still.
use Rattle.std.specs.Prelude.{ℕ, ◌+◌, Bool, false, nat_lt, List, length, map, slice_get, unwrap_or, Ok, Err, Some, None}
use Rattle.std.specs.declared.option.Option.{Option}
use Rattle.std.specs.declared.result.Result.{Result}
use Rattle.std.specs.Bool.{then_some}
use Rattle.std.specs.List.{enumerate_from}
use Rattle.omf_module.specs.Before.{first}
use Rattle.omf_module.specs.Module.{Segment, DataRecord, Module}

-- the length that is told for the segment of this number, counted from 0, where there is one
abbrev pub told_length : (lengths : List (Option ℕ)) → ℕ → Option ℕ
told_length lengths number = unwrap_or (slice_get lengths number) None

-- a segment with the length that is told for it; as it is, where none is
abbrev pub with_told : Option ℕ → Segment → Segment
with_told None s = s
with_told (Some bytes) s = record s { length = bytes }

-- the segment of this number
abbrev pub with_length : (lengths : List (Option ℕ)) → ℕ × Segment → Segment
with_length lengths (number, s) = with_told (told_length lengths number) s

-- the module with these lengths of its segments
abbrev pub relengthened : (lengths : List (Option ℕ)) → Module → Module
relengthened lengths m = record m { segments = map (with_length lengths) (enumerate_from 0 m.segments) }

-- data passes the end of a segment
abbrev pub passes_end : Option Segment → DataRecord → Bool
passes_end None data' = false
passes_end (Some s) data' = nat_lt s.length (data'.offset + length data'.pairs)

-- of its own one of these
abbrev pub is_outside : List Segment → DataRecord → Bool
is_outside segments data' = passes_end (slice_get segments data'.segment) data'

-- the place of the first data record that passes the end of its segment
abbrev pub first_outside : Module → Option ℕ
first_outside m = first (map (λ (d : DataRecord). then_some (is_outside m.segments d) d.place) m.data_records)

-- the module, unless data lies outside: the place of the first such record
abbrev pub unless_outside : Option ℕ → Module → Result Module ℕ
unless_outside None m = Ok m
unless_outside (Some place) m = Err place

-- the module with these lengths, unless data lies outside then
abbrev pub with_lengths : (lengths : List (Option ℕ)) → Module → Result Module ℕ
with_lengths lengths m = unless_outside (first_outside (relengthened lengths m)) (relengthened lengths m)
