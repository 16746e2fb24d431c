-- The frame at a place of bytes, as the record of a file.
use Rattle.std.proofs.Common.{◌≡◌, ℕ, ◌≤◌, ◌<◌, Bool, true, false, if◌then◌else◌, List, [], ◌∷◌, length, drop, refl}
use Rattle.std.proofs.Common.{sym, ap}
use Rattle.std.proofs.Common.{◌∙◌, Result, Ok, Err, Option, None, Some, arith}
use Rattle.std.specs.Prelude.{nat_le, nat_lt, ◌==◌, ◌+◌, ◌*◌, ◌-◌, take, slice_index}
use Rattle.std.proofs.lemmas.Bool.Decides.{nat_tests}
use Rattle.std.proofs.lemmas.List.{drop_all, length-drop}
use Rattle.omf_frame.specs.Frame.{Frame, closes, frame_at, frame_of, place_limit}
use Rattle.omf_frame.specs.declared.reading.FramingFault.{FramingFault}
use Rattle.omf_frame.specs.declared.reading.FramingFault.TheVariants as framing
use Rattle.omf_library.specs.Records.{record_at, record_or_fault}
use Rattle.omf_library.specs.declared.fault.LibraryFault.{LibraryFault}
use Rattle.omf_plain.specs.inside.Walking.{framing_fault}

abbrev Answer : Type 0
Answer = Result (Option Frame) FramingFault

-- what is answered of a header and the bytes behind it
abbrev answer : (zero cut closed : Bool) → Frame → Answer
answer zero cut closed f =
    if zero then Err framing.ZeroLength
    else if cut then Err framing.Truncated
    else if closed then Ok (Some f)
    else Err framing.Closing

answer_late : (zero cut closed : Bool) (f : Frame) → answer zero cut closed f ≡ Err framing.InputTooLong → ⊥
answer_late true cut closed f e = cc
answer_late false true closed f e = cc
answer_late false false true f e = cc
answer_late false false false f e = cc

answer_none : (zero cut closed : Bool) (f : Frame) → answer zero cut closed f ≡ Ok None → ⊥
answer_none true cut closed f e = cc
answer_none false true closed f e = cc
answer_none false false true f e = cc
answer_none false false false f e = cc

never_late : (place : ℕ) (bytes : List ℕ) → frame_of place bytes ≡ Err framing.InputTooLong → ⊥
unfolding frame_of
never_late place [] e = cc
never_late place (a ∷ []) e = cc
never_late place (a ∷ b ∷ []) e = cc
never_late place (a ∷ b ∷ c ∷ rest) e =
    let len = b + 256 * c in
    answer_late (len == 0) (nat_lt (length rest) len)
    (closes (slice_index rest (len - 1)) (a ∷ b ∷ c ∷ take len rest))
    (record { place = place; kind = a; body = take (len - 1) rest }) e

some_frame : (place : ℕ) (bytes : List ℕ) → 0 < length bytes → frame_of place bytes ≡ Ok None → ⊥
unfolding frame_of
some_frame place [] some e = absurd (omega (arith, some))
some_frame place (a ∷ []) some e = cc
some_frame place (a ∷ b ∷ []) some e = cc
some_frame place (a ∷ b ∷ c ∷ rest) some e =
    let len = b + 256 * c in
    answer_none (len == 0) (nat_lt (length rest) len)
    (closes (slice_index rest (len - 1)) (a ∷ b ∷ c ∷ take len rest))
    (record { place = place; kind = a; body = take (len - 1) rest }) e

-- ---- at a place

pub too_late : (bytes : List ℕ) (place : ℕ) → place_limit ≤ place → frame_at place bytes ≡ Err framing.InputTooLong
too_late bytes place late =
    let yes : nat_le place_limit place ≡ true = grind (arith, nat_tests) in rw yes refl

in_time : (bytes : List ℕ) (place : ℕ) → place < place_limit → frame_at place bytes ≡ frame_of place bytes
in_time bytes place early =
    let no : nat_le place_limit place ≡ false = grind (arith, nat_tests) in rw no refl

pub no_frame_there : (bytes : List ℕ) (place : ℕ) → place < place_limit → place ≡ length bytes
    → frame_at place (drop place bytes) ≡ Ok None
unfolding frame_of
no_frame_there bytes place early at =
    in_time (drop place bytes) place early
    ∙ ap (λ xs. frame_of place xs) (drop_all place bytes (omega (arith, at)))

by_answer : (place : ℕ) (a : Answer) (f : Frame) → Ok f ≡ record_or_fault place a → a ≡ Ok (Some f)
by_answer place (Ok None) f e = absurd cc
by_answer place (Ok (Some g)) f e = cc
by_answer place (Err x) f e = absurd cc

pub frame_there : (bytes : List ℕ) (place : ℕ) (f : Frame) → place < place_limit → Ok f ≡ record_at bytes place
    → frame_at place (drop place bytes) ≡ Ok (Some f)
unfolding record_at
frame_there bytes place f early e =
    in_time (drop place bytes) place early ∙ by_answer place (frame_of place (drop place bytes)) f e

by_fault : (place : ℕ) (a : Answer) (e : LibraryFault) → (a ≡ Ok None → ⊥) → (a ≡ Err framing.InputTooLong → ⊥)
    → Err e ≡ record_or_fault place a → a ≡ Err (framing_fault e)
by_fault place (Ok None) e none late is = absurd (none refl)
by_fault place (Ok (Some g)) e none late is = absurd cc
by_fault place (Err framing.ZeroLength) e none late is = cc
by_fault place (Err framing.Truncated) e none late is = cc
by_fault place (Err framing.Closing) e none late is = cc
by_fault place (Err framing.InputTooLong) e none late is = absurd (late refl)

pub fault_there : (bytes : List ℕ) (place : ℕ) (e : LibraryFault) → place < place_limit → place < length bytes
    → Err e ≡ record_at bytes place → frame_at place (drop place bytes) ≡ Err (framing_fault e)
unfolding record_at
fault_there bytes place e early within is =
    let some : 0 < length (drop place bytes) = omega (arith, length-drop place bytes) in
    in_time (drop place bytes) place early
    ∙ by_fault place (frame_of place (drop place bytes)) e (some_frame place (drop place bytes) some)
    (never_late place (drop place bytes)) is
