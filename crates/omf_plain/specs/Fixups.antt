-- Threads and fix-ups (TIS OMF 1.1, "Fixup Record"), and the start of a program (MODEND), with 16 bits.
use Rattle.std.specs.Prelude.{ℕ, ◌+◌, ◌%◌, ◌==◌, ◌&&◌, Bool, true, false, if◌then◌else◌, nat_lt, List, [], ◌∷◌, length}
use Rattle.std.specs.Prelude.{slice_index, None, Some, Ok, Err}
use Rattle.std.specs.declared.option.Option.{Option}
use Rattle.std.specs.declared.result.Result.{Result}
use Rattle.std.specs.Option.{ok_or}
use Rattle.omf_record.specs.declared.fixups.Datum.TheVariants as datum
use Rattle.omf_record.specs.declared.fixups.FrameMethod.TheVariants as by
use Rattle.omf_record.specs.declared.fixups.TargetMethod.TheVariants as to
use Rattle.omf_record.specs.declared.fixups.Fixup.{Fixup}
use Rattle.omf_record.specs.declared.fixups.Location.{Location}
use Rattle.omf_record.specs.declared.fixups.Location.TheVariants.{Offset, LoaderOffset}
use Rattle.omf_record.specs.declared.fixups.Reference.{Reference}
use Rattle.omf_record.specs.declared.fixups.Subrecord.{Subrecord}
use Rattle.omf_record.specs.declared.fixups.Subrecord.TheVariants as sub
use Rattle.omf_wide.specs.declared.fixups.WideFixup.{WideFixup}
use Rattle.omf_wide.specs.declared.fixups.WideLocation.{WideLocation}
use Rattle.omf_wide.specs.declared.fixups.WideLocation.TheVariants.{Of16Bits, Offset32, LoaderOffset32}
use Rattle.omf_wide.specs.declared.fixups.WideReference.{WideReference}
use Rattle.omf_wide.specs.declared.fixups.WideSubrecord.{WideSubrecord}
use Rattle.omf_wide.specs.declared.fixups.WideSubrecord.TheVariants as wide
use Rattle.omf_plain.specs.declared.fault.Obstacle.{Obstacle}
use Rattle.omf_plain.specs.declared.fault.Obstacle.TheVariants.{Above16Bits, FlatFrame, OutsideData}
use Rattle.omf_plain.specs.Data.{Data, KeptOut, Stored, WideRepeated, said_place, stored_at}
use Rattle.omf_plain.specs.Flat.{frame_is_flat, target_is_flat, reference_is_flat}
use Rattle.omf_plain.specs.Step.{◌>>=◌}

-- a displacement of 16 bits
abbrev pub plain_displacement : Option ℕ → Result (Option ℕ) Obstacle
plain_displacement None = Ok None
plain_displacement (Some d) = if nat_lt d 65536 then Ok (Some d) else Err Above16Bits

-- what a fix-up or a start refers to, which isn't FLAT
abbrev pub plain_reference : (flat : List Bool) → WideReference → Result Reference Obstacle
plain_reference flat r =
    if reference_is_flat flat r then Err FlatFrame
    else (plain_displacement r.displacement
    >>= λ d. Ok (record { frame = r.frame; target = r.target; displacement = d }))

-- whether the number of four bytes at the front is negative: its upper word is FFFFH, and else it is 0
abbrev pub is_negative : List ℕ → Result Bool Obstacle
is_negative content =
    if nat_lt (length content) 4 then Err OutsideData
    else if (slice_index content 2 == 0) && (slice_index content 3 == 0) then Ok false
    else if (slice_index content 2 == 255) && (slice_index content 3 == 255) then Ok true
    else Err Above16Bits

-- Behind the fix-up of a negative number of 32 bits at a place of the data, which isn't repeated, stands one that adds 1
-- to the number's upper word, so that it is 0 as that of the sum is: a self-relative distance, counted from the word's
-- end to the byte behind that. Places have ten bits.
abbrev pub carry : Data → (place : ℕ) → Result Fixup Obstacle
carry (Stored segment offset bytes) place =
    if nat_lt place 1022 then Ok (record {
      self_relative = true;
      location = Offset;
      offset = place + 2;
      reference = record {
        frame = datum.By by.Target;
        target = datum.By (to.Segment segment);
        displacement = Some ((offset + place + 5) % 65536);
      };
    })
    else Err Above16Bits
carry _ place = Err Above16Bits

-- for a fix-up of 32 bits one of 16 stands, and behind it another one, where the number there is negative
abbrev pub behind_short : Data → WideFixup → Result (Option Fixup) Obstacle
behind_short last f =
    if f.self_relative then Err OutsideData
    else (ok_or (stored_at last f.offset) OutsideData >>= is_negative
    >>= λ negative. if negative then (carry last f.offset >>= λ x. Ok (Some x)) else Ok None)

-- A loader-resolved offset is an offset; so its number is free for the fix-ups that were of 32 bits.
abbrev pub plain_location : Location → Location
plain_location LoaderOffset = Offset
plain_location location = location

-- the location of a fix-up, and the fix-up behind it
abbrev pub located : Data → WideFixup → WideLocation → Result (Location × Option Fixup) Obstacle
located last f (Of16Bits location) = Ok (plain_location location, None)
located last f Offset32 = behind_short last f >>= λ behind. Ok (LoaderOffset, behind)
located last f LoaderOffset32 = behind_short last f >>= λ behind. Ok (LoaderOffset, behind)

-- the place of a fix-up in the data as it is said: repeated data of 32 bits has to have it
abbrev pub plain_place : Data → (place : ℕ) → Result ℕ Obstacle
plain_place (WideRepeated contents) place = ok_or (said_place contents place) OutsideData
plain_place _ place = Ok place

-- a fix-up, and the one behind it
abbrev pub with_behind : Fixup → Option Fixup → List Subrecord
with_behind f None = sub.Fixup f ∷ []
with_behind f (Some behind) = sub.Fixup f ∷ sub.Fixup behind ∷ []

-- a fix-up with 16 bits
abbrev pub plain_fixup : (flat : List Bool) → Data → WideFixup → Result (List Subrecord) Obstacle
plain_fixup flat last f = plain_reference flat f.reference >>= λ reference.
    (located last f f.location
    >>= λ (location, behind). (plain_place last f.offset
    >>= λ place. Ok (with_behind (record {
      self_relative = f.self_relative;
      location = location;
      offset = place;
      reference = reference;
    }) behind)))

-- fix-ups of data that is kept out are, too
abbrev pub kept_fixup : (flat : List Bool) → Data → WideFixup → Result (List Subrecord) Obstacle
kept_fixup flat KeptOut f = Ok []
kept_fixup flat last f = plain_fixup flat last f

-- a subrecord: threads stay, since later fix-ups may use them
abbrev pub plain_subrecord : (flat : List Bool) → Data → WideSubrecord → Result (List Subrecord) Obstacle
plain_subrecord flat last (wide.SetFrame n m) =
    if frame_is_flat flat m then Err FlatFrame else Ok (sub.SetFrame n m ∷ [])
plain_subrecord flat last (wide.SetTarget n m) =
    if target_is_flat flat m then Err FlatFrame else Ok (sub.SetTarget n m ∷ [])
plain_subrecord flat last (wide.Fixup f) = kept_fixup flat last f

-- the start of a program
abbrev pub plain_start : (flat : List Bool) → Option WideReference → Result (Option Reference) Obstacle
plain_start flat None = Ok None
plain_start flat (Some r) = plain_reference flat r >>= λ start. Ok (Some start)
