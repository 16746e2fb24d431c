-- Where frame and target move alike, what a fix-up adds at paragraph P is what it adds at 0, with P added to
-- relocatable frames.
use Rattle.std.proofs.Common.{◌≡◌, ℕ, ◌+◌, ◌*◌, ◌%◌, pos, ◌-ℤ◌, Bool, true, false, [], ◌∷◌, map, refl, ap, ◌∙◌, arith}
use Rattle.std.proofs.lemmas.Int.{ints}
use Rattle.omf_record.specs.declared.fixups.Location.{Location}
use Rattle.omf_record.specs.declared.fixups.Location.TheVariants.{LowByte, Offset, Base, Pointer, LoaderOffset}
use Rattle.omf_place.specs.declared.layout.Position.{Position}
use Rattle.omf_place.specs.declared.layout.Position.TheVariants.{Relocatable, Absolute}
use Rattle.omf_image.specs.declared.patch.Patch.TheVariants.{Byte, Word, Relocated}
use Rattle.omf_image.specs.declared.reference.Base.{Base as Frame}
use Rattle.omf_image.specs.declared.reference.Base.TheVariants.{Relocatable as Moving, Absolute as Fixed}
use Rattle.omf_image.specs.declared.reference.Resolved.{Resolved}
use Rattle.omf_image.specs.Reference.{frame'}
use Rattle.omf_image.specs.Value.{modulo, base_patch, patches_at}
use Rattle.omf_image.specs.inside.Distances.{from_frame, from_address}
use Rattle.omf_image.specs.Faults.{is_mixed}
use Rattle.omf_image.proofs.Law.{at_paragraph}

pub frame_step : (f P : ℕ) → (f + P) % 65536 ≡ ((f + 0) % 65536 + P) % 65536
frame_step f P = omega arith

base_moves : (P i : ℕ) (f : Frame) → base_patch P i f ≡ at_paragraph P (base_patch 0 i f)
base_moves P i (Moving f) = ap (Relocated i) (frame_step f P)
base_moves P i (Fixed f) = refl

distance_stays : (P t f d : ℕ) → pos (t + 16 * P + d) -ℤ pos (16 * (f + P)) ≡ pos (t + 16 * 0 + d) -ℤ pos (16 * (f + 0))
distance_stays P t f d = omega (arith, ints)

self_stays : (P t d a : ℕ) → pos (t + 16 * P + d) -ℤ pos (16 * P + a) ≡ pos (t + 16 * 0 + d) -ℤ pos (16 * 0 + a)
self_stays P t d a = omega (arith, ints)

abbrev pub made : Position → Frame → ℕ → Resolved
made t g d = record { target = t; named_frame = g; displacement = d }

-- a segment-relative distance
pub offset_stays : (P : ℕ) (t : Position) (g : Frame) (d : ℕ) → is_mixed false Offset (made t g d) ≡ false
    → from_frame P (made t g d) ≡ from_frame 0 (made t g d)
offset_stays P (Relocatable t f) (Moving g) d h = distance_stays P t g d
offset_stays P (Relocatable t f) (Fixed g) d h = cc
offset_stays P (Absolute t f) (Moving g) d h = refl
offset_stays P (Absolute t f) (Fixed g) d h = refl

-- a self-relative distance
distance_of_self : (P : ℕ) (t : Position) (g : Frame) (d a : ℕ) → is_mixed true Offset (made t g d) ≡ false
    → from_address P (made t g d) a ≡ from_address 0 (made t g d) a
distance_of_self P (Relocatable t f) g d a h = self_stays P t d a
distance_of_self P (Absolute t f) g d a h = cc

pub patches_stay : (P : ℕ) (r : Resolved) (s : Bool) (l : Location) (i a : ℕ) → is_mixed s l r ≡ false
    → patches_at P r s l i a ≡ map (at_paragraph P) (patches_at 0 r s l i a)
patches_stay P r false LowByte i a h =
    ap (λ z. Byte i (modulo 256 z) ∷ []) (offset_stays P r.target r.named_frame r.displacement h)
patches_stay P r false Offset i a h =
    ap (λ z. Word i (modulo 65536 z) ∷ []) (offset_stays P r.target r.named_frame r.displacement h)
patches_stay P r false LoaderOffset i a h =
    ap (λ z. Word i (modulo 65536 z) ∷ []) (offset_stays P r.target r.named_frame r.displacement h)
patches_stay P r false Base i a h = ap (λ p. p ∷ []) (base_moves P i (frame' r))
patches_stay P r false Pointer i a h =
    ap (λ z. Word i (modulo 65536 z) ∷ base_patch P (i + 2) (frame' r) ∷ [])
    (offset_stays P r.target r.named_frame r.displacement h)
    ∙ ap (λ p. Word i (modulo 65536 (from_frame 0 r)) ∷ p ∷ []) (base_moves P (i + 2) (frame' r))
patches_stay P r true LowByte i a h =
    ap (λ z. Byte i (modulo 256 z) ∷ []) (distance_of_self P r.target r.named_frame r.displacement (a + 1) h)
patches_stay P r true _ i a h =
    ap (λ z. Word i (modulo 65536 z) ∷ []) (distance_of_self P r.target r.named_frame r.displacement (a + 2) h)
