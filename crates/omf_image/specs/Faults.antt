-- The faults of data and fix-ups, the first in order.
use Rattle.std.specs.Prelude.{ℕ, ◌+◌, ◌*◌, pos, ◌+ℤ◌, int_le, Bool, true, false, not, ◌&&◌, ◌||◌, cond}
use Rattle.std.specs.Prelude.{nat_le, nat_lt, List, [], ◌∷◌, ◌++◌, Option, Some, None, Result, Ok, Err}
use Rattle.std.specs.Int.{cast_signed, w16}
use Rattle.std.specs.Bool.{then_some}
use Rattle.std.specs.List.{list_all, list_any}
use Rattle.std.specs.Option.{option_map, option_or}
use Rattle.omf_record.specs.declared.fixups.Location.{Location}
use Rattle.omf_record.specs.declared.fixups.Location.TheVariants.{LowByte, Base}
use Rattle.omf_module.specs.declared.ResolvedFixup.{ResolvedFixup}
use Rattle.omf_module.specs.Before.{first}
use Rattle.omf_module.specs.Module.{DataRecord}
use Rattle.omf_image.specs.declared.reference.Base.{Base as Frame}
use Rattle.omf_image.specs.declared.reference.Base.TheVariants.{Relocatable as Moving, Absolute as Fixed}
use Rattle.omf_place.specs.Layout.{Layout}
use Rattle.omf_image.specs.declared.faults.FixKind.{FixKind}
use Rattle.omf_image.specs.declared.faults.FixKind.TheVariants.{CoversRelocated, Mixed}
use Rattle.omf_image.specs.declared.faults.FixKind.TheVariants.{OutOfFrame, ShortTooFar, OverlapRelocated}
use Rattle.omf_image.specs.declared.faults.FixFault.{FixFault}
use Rattle.omf_image.specs.declared.faults.FixFault.TheVariants.{At}
use Rattle.omf_image.specs.declared.patch.Patch.{Patch}
use Rattle.omf_place.specs.declared.layout.Position.{Position}
use Rattle.omf_place.specs.declared.layout.Position.TheVariants.{Relocatable, Absolute}
use Rattle.omf_image.specs.declared.reference.Resolved.{Resolved}
use Rattle.omf_image.specs.Patch.{clear}
use Rattle.omf_image.specs.Reference.{frame'}
use Rattle.omf_image.specs.Value.{real_address, real_frame}
use Rattle.omf_image.specs.Located.{covers}
use Rattle.omf_image.specs.Records.{hits, stored_of, OfModule, entry_start, meaning, patches_on, fixup_patches}
use Rattle.omf_image.specs.Records.{record_relocations, datum}

-- a relocatable thing moves with the program
abbrev pub target_moves : Position → Bool
target_moves (Relocatable address frame) = true
target_moves (Absolute address frame) = false

-- a relocatable frame moves with the program
abbrev pub frame_moves : Frame → Bool
frame_moves (Moving frame) = true
frame_moves (Fixed frame) = false

-- the target and the frame that is used both move with the program
abbrev pub both_move : Resolved → Bool
both_move reference = target_moves reference.target && frame_moves (frame' reference)

-- A distance that depends on the load paragraph; a base alone has none. A self-relative one counts from the program,
-- another one from the frame.
abbrev pub is_mixed : (self_relative : Bool) → Location → Resolved → Bool
is_mixed true location reference = not (both_move reference)
is_mixed false Base reference = false
is_mixed false _ reference = target_moves reference.target && not (frame_moves (frame' reference))

-- the address lies in the 65,536 bytes from the frame's start on
abbrev pub in_frame : Resolved → (address : ℕ) → Bool
in_frame reference address =
    nat_le (16 * real_frame 0 (frame' reference)) address
    && nat_lt address (16 * real_frame 0 (frame' reference) + 65536)

-- the target lies in the frame
abbrev pub target_in_frame : Resolved → Bool
target_in_frame reference = in_frame reference (real_address 0 reference.target)

-- The target lies outside of the frame, or, of a self-relative distance, a location does; the locations stand at these
-- positions of data that begins at the address start.
abbrev pub out_of_frame : (self_relative : Bool) → Location → Resolved → (positions : List ℕ) → (start : ℕ) → Bool
out_of_frame true location reference positions start =
    not (target_in_frame reference) || not (list_all (λ i. in_frame reference (start + i)) positions)
out_of_frame false Base reference positions start = false
out_of_frame false _ reference positions start = not (target_in_frame reference)

-- A self-relative distance that is to be put into a byte and doesn't fit a signed one: the target, with a signed
-- displacement, lies more than 128 bytes before the location's end, or more than 127 behind it.
abbrev pub too_far : (self_relative : Bool) → Location → Resolved → (positions : List ℕ) → (start : ℕ) → Bool
too_far true LowByte reference positions start =
    let to = pos (real_address 0 reference.target) +ℤ cast_signed w16 reference.displacement in
    not (list_all (λ i. int_le (pos (start + i + 1)) (to +ℤ pos 128) && int_le to (pos (start + i + 128))) positions)
too_far _ _ reference positions start = false

-- The first test that is true of a fix-up whose frame and target are known: of its range, at the positions of its
-- location, and of what it adds there after earlier patches of its data record.
abbrev pub first_test : Resolved → (self_relative : Bool) → Location → (start : ℕ) → (positions : List ℕ)
    → (earlier : List Patch) → Option FixKind
first_test reference self_relative location start positions earlier =
    first (then_some (is_mixed self_relative location reference) Mixed
    ∷ then_some (out_of_frame self_relative location reference positions start) OutOfFrame
    ∷ then_some (too_far self_relative location reference positions start) ShortTooFar
    ∷ then_some (not (list_all (λ p. list_all (clear p)
    (patches_on 0 reference self_relative location start positions)) earlier)) OverlapRelocated ∷ [])

-- the fault of a reference: that nothing was found for it, or that of what was found
abbrev pub resolved_fault : Result Resolved FixKind → (Resolved → Option FixKind) → Option FixKind
resolved_fault (Ok reference) fault = fault reference
resolved_fault (Err kind) fault = Some kind

-- the fault of a fix-up after earlier patches of its data record
abbrev pub fixup_fault : Layout → OfModule DataRecord → (earlier : List Patch) → ResolvedFixup → Option FixKind
fixup_fault layout entry earlier fixup =
    resolved_fault (meaning layout entry fixup) (λ reference. first_test reference fixup.self_relative fixup.location
    (entry_start layout entry) (hits fixup.offset (stored_of entry.item)) earlier)

-- the first fault of the fix-ups of a data record, after earlier patches of it
abbrev pub fixups_fault : Layout → OfModule DataRecord → (earlier : List Patch) → List ResolvedFixup → Option FixFault
fixups_fault layout entry earlier [] = None
fixups_fault layout entry earlier (fixup ∷ fixups) =
    option_or (option_map (λ kind. At kind entry.input fixup.place) (fixup_fault layout entry earlier fixup))
    (fixups_fault layout entry (earlier ++ fixup_patches 0 layout entry fixup) fixups)

-- the first fault of a data record, after earlier relocated words: that it covers a byte of one, or that of a fix-up
abbrev pub record_fault : Layout → (words : List ℕ) → OfModule DataRecord → Option FixFault
record_fault layout words entry =
    let data' = datum 0 layout entry in
    cond (list_any (λ w. covers w data' || covers (w + 1) data') words)
    (Some (At CoversRelocated entry.input entry.item.place)) (fixups_fault layout entry [] entry.item.fixups)

-- the first fault of the data records, after earlier relocated words
abbrev pub records_fault : Layout → (words : List ℕ) → List (OfModule DataRecord) → Option FixFault
records_fault layout words [] = None
records_fault layout words (entry ∷ later) =
    option_or (record_fault layout words entry) (records_fault layout (words ++ record_relocations layout entry) later)
