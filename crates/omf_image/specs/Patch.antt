-- What fix-ups add to the bytes of a data record. A patch is a byte or a word to be added at a place;
-- a Relocated word is a relocatable frame.
use Rattle.std.specs.Prelude.{ℕ, ◌+◌, Bool, not, ◌||◌, nat_le, List, Option, Some, None, is_some}
use Rattle.omf_image.specs.declared.patch.Patch.{Patch}
use Rattle.omf_image.specs.declared.patch.Patch.TheVariants.{Byte, Word, Relocated}
use Rattle.omf_image.specs.Words.{add_byte, add_word}

-- data with a patch added
abbrev pub patched : Patch → (data' : List ℕ) → List ℕ
patched (Byte place value) data' = add_byte value place data'
patched (Word place value) data' = add_word value place data'
patched (Relocated place value) data' = add_word value place data'

-- the place of a relocated word
abbrev pub relocated_place : Patch → Option ℕ
relocated_place (Relocated place value) = Some place
relocated_place _ = None

-- the places of its first byte and behind its last
abbrev pub patch_ends : Patch → ℕ × ℕ
patch_ends (Byte place value) = (place, place + 1)
patch_ends (Word place value) = (place, place + 2)
patch_ends (Relocated place value) = (place, place + 2)

-- they share no byte of a relocated word of either
abbrev pub clear : Patch → Patch → Bool
clear first second =
    not (is_some (relocated_place first) || is_some (relocated_place second))
    || (nat_le (patch_ends first).1 (patch_ends second).0 || nat_le (patch_ends second).1 (patch_ends first).0)
