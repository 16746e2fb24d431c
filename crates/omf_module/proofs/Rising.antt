-- Stored places that count from 0.
use Rattle.std.proofs.Common.{◌≡◌, ℕ, ◌≤◌, List, ◌++◌, length, take, drop, ap, sym, ◌∙◌, arith}
use Rattle.std.specs.List.{range_with_len}
use Rattle.std.proofs.lemmas.List.{take-take}
use Rattle.std.proofs.lemmas.List.FromFn.{length-range_with_len}
use Rattle.omf_module.specs.declared.pieces.Piece.{Piece}
use Rattle.omf_module.specs.inside.Store.{elements, IsIn, Rises}
use Rattle.omf_module.proofs.Stored.{piece_stays, last_of, last_piece, last_is_in}
use Rattle.omf_module.proofs.Ranges.{take-range}

pub rises_on : (places more : List ℕ) (p : Piece) → Rises places p → Rises (places ++ more) p
rises_on places more p h =
    let s = piece_stays places more p h.0 in
    (s.1, s.0 ∙ h.1)

-- a longer piece, at the end
pub rises_last : (places : List ℕ) (n : ℕ)
    → Rises (places ++ range_with_len 0 n) (record { from = length places; len = n })
rises_last places n =
    let row = range_with_len 0 n in
    let h : IsIn (places ++ row) (last_of places row) × (elements (places ++ row) (last_of places row) ≡ row) =
    (last_is_in places row, last_piece places row) in
    rw (length-range_with_len 0 n) at h

-- its front
pub rises_to : (places : List ℕ) (p : Piece) (n : ℕ) → Rises places p → n ≤ p.len
    → Rises places (record { from = p.from; len = n })
rises_to places p n h le =
    (omega (arith, h.0), sym (take-take n p.len (drop p.from places) le) ∙ ap (take n) h.1 ∙ take-range 0 p.len n le)

-- as many as the bytes that are kept last, once the list has grown
pub rising_data : (bytes places more added now : List ℕ) (p b : Piece) → now ≡ places ++ added
    → (length more ≤ p.len) × Rises now p → b ≡ last_of bytes more
    → IsIn (places ++ added) (record { from = p.from; len = b.len })
    × (elements (places ++ added) (record { from = p.from; len = b.len }) ≡ range_with_len 0 (length more))
rising_data bytes places more added now p b e h k = rw (k, ← e) (rises_to now p (length more) h.1 h.0)
