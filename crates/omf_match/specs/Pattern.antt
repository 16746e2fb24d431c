-- What the data of a segment ask of a program (TIS OMF 1.1, "LEDATA", "LIDATA" and "FIXUPP"): a linker puts each byte
-- as it is, unless a fix-up's location has it. A byte that is stored once and stands often is changed wherever it
-- stands.
use Rattle.std.specs.Prelude.{ℕ, ◌+◌, ◌==◌, ◌&&◌, Bool, nat_le, nat_lt, if◌then◌else◌, List, ◌++◌, length, map, take}
use Rattle.std.specs.Prelude.{drop, replicate, fold, slice_get, Some, None}
use Rattle.std.specs.declared.option.Option.{Option}
use Rattle.std.specs.List.{list_any}
use Rattle.std.specs.Option.{option_map_or}
use Rattle.omf_record.specs.Numbers.{location_width}
use Rattle.omf_module.specs.declared.ResolvedFixup.{ResolvedFixup}
use Rattle.omf_module.specs.Module.{DataRecord, Module}

-- the location of a fix-up has the byte that is stored at a place
abbrev pub changes : ResolvedFixup → (place : ℕ) → Bool
changes fixup place = nat_le fixup.offset place && nat_lt place (fixup.offset + location_width fixup.location)

-- that of one of these does
abbrev pub is_changed : List ResolvedFixup → (place : ℕ) → Bool
is_changed fixups place = list_any (λ f. changes f place) fixups

-- what a byte, behind the place at which it is stored, asks for
abbrev pub cell_of : List ResolvedFixup → ℕ × ℕ → Option ℕ
cell_of fixups pair = if is_changed fixups pair.0 then None else Some pair.1

-- what the bytes of a data record ask for
abbrev pub cells_of : DataRecord → List (Option ℕ)
cells_of data' = map (cell_of data'.fixups) data'.pairs

-- a data record laid over a pattern: later data stands in place of earlier
abbrev pub laid : List (Option ℕ) → DataRecord → List (Option ℕ)
laid pattern data' =
    take data'.offset pattern ++ cells_of data' ++ drop (data'.offset + length data'.pairs) pattern

-- the same, if it is one of this segment
abbrev pub laid_in : (segment : ℕ) → List (Option ℕ) → DataRecord → List (Option ℕ)
laid_in segment pattern data' = if data'.segment == segment then laid pattern data' else pattern

-- how many bytes a segment of a module has, by its index from 0
abbrev pub segment_len : Module → (segment : ℕ) → ℕ
segment_len m segment = option_map_or (λ s. s.length) (slice_get m.segments segment) 0

-- the pattern of a segment: nothing but its data asks for anything
unfoldable pub pattern_of : Module → (segment : ℕ) → List (Option ℕ)
pattern_of m segment = fold (laid_in segment) (replicate (segment_len m segment) None) m.data_records
