-- The distances that fix-ups add.
use Rattle.std.specs.Prelude.{ℕ, ◌+◌, ◌*◌, ℤ, pos, ◌+ℤ◌, int_le, Bool, ◌&&◌}
use Rattle.std.specs.Int.{cast_signed, w16}
use Rattle.omf_image.specs.declared.reference.Resolved.{Resolved}
use Rattle.omf_image.specs.Reference.{frame'}
use Rattle.omf_image.specs.Value.{distance, real_address, real_frame}

-- the target's distance from the start of the frame
abbrev pub from_frame : (P : ℕ) → Resolved → ℤ
from_frame P r = distance P r (16 * real_frame P (frame' r))

-- the target's distance from an address of the program
abbrev pub from_address : (P : ℕ) → Resolved → (address : ℕ) → ℤ
from_address P r address = distance P r (16 * P + address)

-- the target, with a signed displacement, lies from 128 bytes before the end of a byte at an address to 127 behind it
abbrev pub fits_short : Resolved → (address : ℕ) → Bool
fits_short r address =
    let to = pos (real_address 0 r.target) +ℤ cast_signed w16 r.displacement in
    int_le (pos (address + 1)) (to +ℤ pos 128) && int_le to (pos (address + 128))
