-- What a fix-up adds at a place, loaded at paragraph P, with the real addresses there (TIS OMF 1.1, FIXUPP).
use Rattle.std.specs.Prelude.{ℕ, ◌+◌, ◌*◌, ◌%◌, ℤ, pos, ◌-ℤ◌, unsigned_abs, Bool, true, false, List, [], ◌∷◌}
use Rattle.std.specs.Int.{int_rem_euclid}
use Rattle.omf_record.specs.declared.fixups.Location.{Location}
use Rattle.omf_record.specs.declared.fixups.Location.TheVariants.{LowByte, Base, Pointer}
use Rattle.omf_place.specs.declared.layout.Position.{Position}
use Rattle.omf_place.specs.declared.layout.Position.TheVariants.{Relocatable, Absolute}
use Rattle.omf_image.specs.declared.patch.Patch.{Patch}
use Rattle.omf_image.specs.declared.patch.Patch.TheVariants.{Byte, Word, Relocated}
use Rattle.omf_image.specs.declared.reference.Base.{Base as Frame}
use Rattle.omf_image.specs.declared.reference.Base.TheVariants.{Relocatable as Moving, Absolute as Fixed}
use Rattle.omf_image.specs.declared.reference.Resolved.{Resolved}
use Rattle.omf_image.specs.Reference.{frame'}

-- the number from 0 to n - 1 that agrees with an integer modulo n
abbrev pub modulo : (n : ℕ) → ℤ → ℕ
modulo n number = unsigned_abs (int_rem_euclid number (pos n))

-- the real address of something, loaded at paragraph P
abbrev pub real_address : (P : ℕ) → Position → ℕ
real_address P (Relocatable address frame) = address + 16 * P
real_address P (Absolute address frame) = address

-- the number of a frame, loaded at paragraph P
abbrev pub real_frame : (P : ℕ) → Frame → ℕ
real_frame P (Moving number) = number + P
real_frame P (Fixed number) = number

-- the target's distance, with the displacement, from a real address
abbrev pub distance : (P : ℕ) → Resolved → (from : ℕ) → ℤ
distance P r from = pos (real_address P r.target + r.displacement) -ℤ pos from

-- the frame, put at a place; a relocatable one is a relocated word
abbrev pub base_patch : (P place : ℕ) → Frame → Patch
base_patch P place (Moving number) = Relocated place (real_frame P (Moving number) % 65536)
base_patch P place (Fixed number) = Word place (real_frame P (Fixed number) % 65536)

-- What is added where the location begins at a place of the data, at an address of the program. A self-relative
-- distance counts from the location's end, another one from the start of the frame.
abbrev pub patches_at : (P : ℕ) → Resolved → (self_relative : Bool) → Location → (place address : ℕ) → List Patch
patches_at P r false LowByte place address = Byte place (modulo 256 (distance P r (16 * real_frame P (frame' r)))) ∷ []
patches_at P r false Base place address = base_patch P place (frame' r) ∷ []
patches_at P r false Pointer place address =
    Word place (modulo 65536 (distance P r (16 * real_frame P (frame' r)))) ∷ base_patch P (place + 2) (frame' r) ∷ []
patches_at P r false _ place address = Word place (modulo 65536 (distance P r (16 * real_frame P (frame' r)))) ∷ []
patches_at P r true LowByte place address = Byte place (modulo 256 (distance P r (16 * P + (address + 1)))) ∷ []
patches_at P r true _ place address = Word place (modulo 65536 (distance P r (16 * P + (address + 2)))) ∷ []
