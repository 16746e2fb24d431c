-- Loader-resolved offsets, location 5, that stand for offsets of 32 bits and need more than 16, and a start that does.
use Rattle.std.specs.Prelude.{ℕ, ◌+◌, ◌*◌, pos, ◌+ℤ◌, nat_le, nat_lt, Bool, true, false, not, ◌&&◌, ◌||◌}
use Rattle.std.specs.Prelude.{if◌then◌else◌, List, [], ◌∷◌, map, filter, find, length, slice_get, Option, Some, None}
use Rattle.std.specs.List.{filter_map, list_any}
use Rattle.std.specs.Option.{option_map, option_map_or}
use Rattle.std.specs.Result.{result_ok}
use Rattle.omf_record.specs.declared.fixups.Location.{Location}
use Rattle.omf_record.specs.declared.fixups.Location.TheVariants.{LoaderOffset}
use Rattle.omf_record.specs.Numbers.{location_width}
use Rattle.omf_module.specs.declared.ResolvedFixup.{ResolvedFixup}
use Rattle.omf_module.specs.declared.Start.{Start}
use Rattle.omf_module.specs.Module.{DataRecord, Module}
use Rattle.omf_place.specs.Layout.{Layout}
use Rattle.omf_image.specs.declared.reference.Resolved.{Resolved}
use Rattle.omf_image.specs.Words.{word_at}
use Rattle.omf_image.specs.Reference.{frame'}
use Rattle.omf_image.specs.Value.{distance, modulo, real_frame}
use Rattle.omf_image.specs.Records.{OfModule, bytes_of, entries, hits, meaning, stored_of}
use Rattle.omf_image.specs.Faults.{both_move, is_mixed, target_in_frame}
use Rattle.omf_image.specs.Registers.{start_meaning, starts}

-- a loader-resolved offset in its frame
abbrev pub is_loader_offset : (self_relative : Bool) → Location → Bool
is_loader_offset false LoaderOffset = true
is_loader_offset _ _ = false

-- the target has a distance from its frame: it lies in it, and moves with the program only where the frame does
abbrev pub is_measured : Resolved → Bool
is_measured reference = not (is_mixed false LoaderOffset reference) && target_in_frame reference

-- the sum of a number of 32 bits and that distance, with the displacement, is 65,536 or more, modulo 2 to the 32nd
abbrev pub is_above : Resolved → (number : ℕ) → Bool
is_above reference number = nat_le 65536
    (modulo 4294967296 (pos number +ℤ distance 0 reference (16 * real_frame 0 (frame' reference))))

-- the number of 32 bits at a place, low byte first
abbrev pub double_word_at : (bytes : List ℕ) → (place : ℕ) → ℕ
double_word_at bytes place = word_at bytes place + 65536 * word_at bytes (place + 2)

-- the numbers of 32 bits that stand, before any fix-up, where bytes of a data record were stored at the place offset
abbrev pub numbers_at : (offset : ℕ) → DataRecord → List ℕ
numbers_at offset data_record = map (double_word_at (bytes_of data_record)) (hits offset (stored_of data_record))

-- the location of a fix-up reaches into the lower word of the number that was stored at the place offset
abbrev pub touches : (offset : ℕ) → ResolvedFixup → Bool
touches offset fixup =
    nat_lt fixup.offset (offset + 2) && nat_lt offset (fixup.offset + location_width fixup.location)

-- more than one fix-up of a data record does: they share the word
abbrev pub is_shared : (offset : ℕ) → DataRecord → Bool
is_shared offset data_record = nat_lt 1 (length (filter (touches offset) data_record.fixups))

-- A fix-up is of such an offset, its target has a distance, and a number stands for it whose lower word other fix-ups
-- share, or with which its sum is too great.
abbrev pub overflows : Layout → OfModule DataRecord → ResolvedFixup → Bool
overflows layout entry fixup =
    is_loader_offset fixup.self_relative fixup.location
    && option_map_or (λ r. is_measured r
    && list_any (λ n. is_shared fixup.offset entry.item || is_above r n)
    (numbers_at fixup.offset entry.item)) (result_ok (meaning layout entry fixup)) false

-- the first such fix-up of a data record: its input, and the place of its record there
abbrev pub entry_overflow : Layout → OfModule DataRecord → Option (ℕ × ℕ)
entry_overflow layout entry =
    option_map (λ f. (entry.input, f.place)) (find (overflows layout entry) entry.item.fixups)

-- the first of a program
abbrev pub first_overflow : Layout → List Module → Option (ℕ × ℕ)
first_overflow layout modules = slice_get (filter_map (entry_overflow layout) (entries modules)) 0

-- A start has no fault (TIS OMF 1.1, MODEND), and its displacement and the target's distance from its frame are 65,536
-- or more together.
abbrev pub start_overflows : Layout → OfModule Start → Bool
start_overflows layout entry =
    option_map_or (λ r. both_move r && target_in_frame r && is_above r 0) (result_ok (start_meaning layout entry)) false

-- the only one of some starts, if it is such a one: its input, and the place of its record there
abbrev pub only_overflow : Layout → List (OfModule Start) → Option (ℕ × ℕ)
only_overflow layout (entry ∷ []) =
    if start_overflows layout entry then Some (entry.input, entry.item.place) else None
only_overflow layout _ = None

-- that of a program
abbrev pub start_overflow : Layout → List Module → Option (ℕ × ℕ)
start_overflow layout modules = only_overflow layout (starts modules)
