-- A public as the map lists it, in its two orders.
use Rattle.std.specs.Prelude.{ℕ, ◌+◌, ◌-◌, ◌*◌, ◌/◌, ◌&&◌, Bool, nat_le, nat_lt, if◌then◌else◌, List, [], ◌∷◌, codes}
use Rattle.std.specs.Cmp.Lexicographic.{slice_cmp}
use Rattle.std.specs.List.{concat}
use Rattle.std.specs.Ordering.{is_lt, nat_cmp, ordering_then}
use Rattle.omf_text.specs.Printing.{hexadecimal}

-- its name, the paragraph from which its offset counts, and whether it stays where it is when the program is moved
pub record Public : Type 0 where
  pub name : List ℕ
  pub frame : ℕ
  pub offset : ℕ
  pub is_absolute : Bool

-- the frame that a public at an address is listed with: its own, where the address lies in the 65,536 bytes from there
-- on, and else the paragraph of the address
abbrev pub listed_frame : (address frame : ℕ) → ℕ
listed_frame address frame =
    if nat_le (16 * frame) address && nat_lt address (16 * frame + 65536) then frame else address / 16

-- a public at an address, counted from a frame
abbrev pub counted_from : (name : List ℕ) → (address frame : ℕ) → (is_absolute : Bool) → Public
counted_from name address frame is_absolute =
    record { name = name; frame = frame; offset = address - 16 * frame; is_absolute = is_absolute }

-- by name: by its bytes as they are written
abbrev pub by_name : Public → Public → Bool
by_name one other = is_lt (slice_cmp nat_cmp one.name other.name)

-- by value: by the frame, and then by the offset
abbrev pub by_value : Public → Public → Bool
by_value one other = is_lt (ordering_then (nat_cmp one.frame other.frame) (nat_cmp one.offset other.offset))

-- what stands between a public's place and its name
abbrev pub mark : (is_absolute : Bool) → List ℕ
mark is_absolute = if is_absolute then codes "  Abs  " else codes "       "

-- the place of a public, whether it is absolute, and its name
unfoldable pub public_line : Public → List ℕ
public_line p =
    concat (codes " " ∷ hexadecimal 4 p.frame ∷ codes ":" ∷ hexadecimal 4 p.offset ∷ mark p.is_absolute ∷ p.name
    ∷ codes "\n" ∷ [])
