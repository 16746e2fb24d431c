-- What a subrecord is made of: its first byte, and what that says stands behind it.
use Rattle.std.proofs.Common.{◌≡◌, ◌≢◌, ℕ, ◌+◌, ◌-◌, ◌*◌, ◌/◌, ◌%◌, ◌<◌, cond, eqb, ltb, List, [], ◌∷◌, ◌++◌, Option}
use Rattle.std.proofs.Common.{Some, None, refl, sym, ap, subst, ◌∙◌, append-nil, arith}
use Rattle.std.proofs.lemmas.Bool.{eqb-true, eqb-false, ltb-true, ltb-false, lt-ltb}
use Rattle.omf_record.specs.Language.{◌⋆◌ as Joined, Byte, Index, One}
use Rattle.omf_record.specs.Body.{bits, ReferenceText, SubrecordText}
use Rattle.omf_record.specs.inside.Fields.{FrameIndex, TargetIndex}
use Rattle.omf_record.specs.Numbers.{bit, thread_number, location_number}
use Rattle.omf_record.specs.inside.Fields.{frame_number, target_number}
use Rattle.omf_record.specs.Canonical as canon
use Rattle.omf_codec.specs.inside.Format.{join, Format, Lawful, Completes, IsFilled, IsMade, free}
use Rattle.omf_codec.specs.inside.FormatLaws.{both, both_lawful, both_blank, behind, when_lawful, when_blank}
use Rattle.omf_codec.specs.inside.FormatLaws.{when, when_canonical, WhenText, bits_at, map_option, map_same}
use Rattle.omf_codec.specs.inside.PrimitiveLaws.{byte, byte_lawful, byte_blank, index, index_lawful, index_blank}
use Rattle.omf_codec.specs.inside.PrimitiveLaws.{fact_byte}
use Rattle.omf_codec.specs.inside.Heads.{ByHead, joined, by_head, by_head_lawful, by_head_filled}
use Rattle.omf_record.specs.inside.References.{thread_of, frame_method_of, frame_method_index, target_method_of}
use Rattle.omf_record.specs.inside.References.{target_method_index, reference, reference_lawful, reference_blank}
use Rattle.omf_record.specs.Types.{Location, FrameMethod, TargetMethod, Reference, Subrecord}
use Rattle.omf_record.specs.declared.fixups.Location.TheVariants.{LowByte, Offset, Base, Pointer, LoaderOffset}
use Rattle.omf_record.specs.declared.fixups.Fixup.{Fixup}
use Rattle.omf_record.specs.declared.fixups.Subrecord.TheVariants as sub

-- the location of this number
abbrev pub location_of : ℕ → Location
location_of n = cond (eqb n 0) LowByte (cond (eqb n 1) Offset
    (cond (eqb n 2) Base (cond (eqb n 3) Pointer LoaderOffset)))

-- no target method 3, no frame method 3, 6 or 7, and no location 4 or above 5
abbrev pub IsFirst : ℕ → Type 0
IsFirst b = (b / 64 ≡ 0 → b / 4 % 4 < 3) × (b / 64 ≡ 1 → (b / 4 % 8 ≢ 3) × (b / 4 % 8 < 6))
    × (b / 128 ≡ 1 → location_number (location_of (b / 4 % 16)) ≡ b / 4 % 16)

-- the indexes and the fix-up behind the first byte, where they stand there
abbrev pub Parts : Type 0
Parts = Option ℕ × (Option (Option ℕ) × Option (ℕ × Reference))

-- what stands behind the first byte
abbrev pub Behind : ℕ → Format Parts Parts
Behind b = both (when (bits_at 64 4 b ≡ 0) index)
    (both (when (bits_at 64 4 b ≡ 1) (when (bits_at 16 2 b ≡ 0) index))
    (when (bits_at 128 2 b ≡ 1) (both byte reference)))

abbrev Bits : Subrecord → ℕ → Type 0
Bits (sub.SetFrame n m) b = (bits 7 6 b ≡ 1) × (bits 4 2 b ≡ frame_number m) × (bits 1 0 b ≡ thread_number n)
Bits (sub.SetTarget n m) b = (bits 7 6 b ≡ 0) × (bits 3 2 b ≡ target_number m) × (bits 1 0 b ≡ thread_number n)
Bits (sub.Fixup f) b = (bits 7 7 b ≡ 1) × (bits 6 6 b ≡ 1 - bit f.self_relative)
    × (bits 5 2 b ≡ location_number f.location) × (bits 1 0 b ≡ f.offset / 256)

abbrev Tail : Subrecord → List ℕ → Type 0
Tail (sub.SetFrame n m) = FrameIndex m
Tail (sub.SetTarget n m) = TargetIndex m
Tail (sub.Fixup f) = Joined (Byte (f.offset % 256)) (ReferenceText f.reference)

-- the subrecord that its first byte and what stands behind it say
abbrev pub subrecord_of : ℕ → Parts → Subrecord
subrecord_of b (t, (f, Some (low, r))) =
    sub.Fixup (record {
      self_relative = eqb (b / 64 % 2) 0;
      location = location_of (b / 4 % 16);
      offset = 256 * (b % 4) + low;
      reference = r;
    })
subrecord_of b (t, (Some x, None)) = sub.SetFrame (thread_of (b % 4)) (frame_method_of (b / 4 % 8) x)
subrecord_of b (Some i, (None, None)) = sub.SetTarget (thread_of (b % 4)) (target_method_of (b / 4 % 4) i)
subrecord_of b (None, (None, None)) = sub.SetTarget (thread_of (b % 4)) (target_method_of (b / 4 % 4) 0)

-- 144 begins nothing
abbrev pub fixup_byte : Fixup → ℕ
fixup_byte f = cond (ltb f.offset 1024) (128 + 64 *
    (1 - bit f.self_relative) + 4 * location_number f.location + f.offset / 256) 144

-- the first byte of a subrecord
abbrev pub first_byte : Subrecord → ℕ
first_byte (sub.SetFrame n m) = 64 + 4 * frame_number m + thread_number n
first_byte (sub.SetTarget n m) = 4 * target_number m + thread_number n
first_byte (sub.Fixup f) = fixup_byte f

-- what stands behind the first byte of a subrecord
abbrev pub behind_first : Subrecord → Parts
behind_first (sub.SetFrame n m) = (None, (Some (frame_method_index m), None))
behind_first (sub.SetTarget n m) = (Some (target_method_index m), (None, None))
behind_first (sub.Fixup f) = (None, (None, Some (f.offset % 256, f.reference)))

pub frame_to : (n high : ℕ) (x : Option ℕ) (text : List ℕ) → (n ≢ 3) × (n < 6) → high ≡ n / 4
    → WhenText (high ≡ 0) Index x text → (n ≡ frame_number (frame_method_of n x))
    × FrameIndex (frame_method_of n x) text
frame_to n high x text h e l = grind (arith, eqb-true, eqb-false, h, l)

pub target_to : (n i : ℕ) (text : List ℕ) → n < 3 → Index i text → (n ≡ target_number (target_method_of n i))
    × TargetIndex (target_method_of n i) text
target_to n i text lt l = grind (arith, eqb-true, eqb-false, l)

pub frame_from : (m : FrameMethod) (b : ℕ) (text : List ℕ) → b < 256 → bits 7 6 b ≡ 1 → bits 4 2 b ≡ frame_number m
    → FrameIndex m text → WhenText (bits_at 16 2 b ≡ 0) Index (frame_method_index m) text
frame_from m b text lt h e l = grind (arith, h, e, l)

pub target_from : (m : TargetMethod) (text : List ℕ) → TargetIndex m text → Index (target_method_index m) text
target_from m text l = grind (arith, l)

pub frame_same : (m : FrameMethod) → when_canonical canon.index (frame_method_index m) ≡ canon.frame_index m
frame_same m = grind arith

pub target_same : (m : TargetMethod) → canon.index (target_method_index m) ≡ canon.target_index m
target_same m = grind arith

to : (b : ℕ) (x : Parts) (text : List ℕ) → b < 256 → IsFirst b
    → (Behind b).Text x text → Bits (subrecord_of b x) b × Tail (subrecord_of b x) text
to b (Some i, (f, Some (low, r))) text lt h j = absurd (omega (arith, j.first.0, j.second.second.0))
to b (None, (Some x, Some (low, r))) text lt h j = absurd (omega (arith, j.second.first.0, j.second.second.0))
to b (None, (None, Some (low, r))) text lt h j =
    let k = j.second.second.1 in
    let is = h.2 (omega (arith, j.second.second.0, lt)) in
    let small = k.first.0 in
    let low-is : low ≡ (256 * (b % 4) + low) % 256 = omega (arith, small) in
    let rest-is : text ≡ j.second.rest = j.parts ∙ ap (λ (t : List ℕ). t ++ j.rest) j.first.1 ∙ j.second.parts
    ∙ ap (λ (t : List ℕ). t ++ j.second.rest) j.second.first.1 in (
      (
        omega (arith, j.second.second.0, lt),
        grind (arith, eqb-true, eqb-false),
        omega (arith, is),
        omega (arith, small),
      ),
      subst (λ t. Joined (Byte ((256 * (b % 4) + low) % 256)) (ReferenceText r) t) (sym rest-is)
          (joined k (subst (λ n. Byte n k.front) low-is k.first) k.second),
    )
to b (Some i, (Some x, None)) text lt h j = absurd (omega (arith, j.first.0, j.second.first.0))
to b (None, (Some x, None)) text lt h j =
    let high = j.second.first.0 in
    let text-is : text ≡ j.second.front = j.parts ∙ ap (λ (t : List ℕ). t ++ j.rest) j.first.1 ∙ j.second.parts
    ∙ ap (λ (t : List ℕ). j.second.front ++ t) j.second.second.1 ∙ append-nil j.second.front in
    let is = frame_to (b / 4 % 8) (b / 16 % 2) x j.second.front (h.1 (omega (arith, high, lt)))
    (omega (arith, high)) j.second.first.1 in (
      (omega (arith, high), is.0, grind (arith, eqb-true, eqb-false)),
      subst (FrameIndex (frame_method_of (b / 4 % 8) x)) (sym text-is) is.1,
    )
to b (Some i, (None, None)) text lt h j =
    let is = target_to (b / 4 % 4) i j.front (h.0 (omega (arith, j.first.0, lt))) j.first.1 in
    let text-is : text ≡ j.front = j.parts ∙ ap (λ (t : List ℕ). j.front ++ t) (j.second.parts
    ∙ ap (λ (t : List ℕ). t ++ j.second.rest) j.second.first.1 ∙ j.second.second.1) ∙ append-nil j.front in (
      (omega (arith, j.first.0, lt), is.0, grind (arith, eqb-true, eqb-false)),
      subst (TargetIndex (target_method_of (b / 4 % 4) i)) (sym text-is) is.1,
    )
to b (None, (None, None)) text lt h j = absurd (let n0 = j.first.0 in let n1 = j.second.first.0 in
    let n2 = j.second.second.0 in omega (arith, n0, n1, n2, lt))

begins : (s : Subrecord) (b : ℕ) → b < 256 → Bits s b → IsFirst b
begins s b lt h = grind (arith, h)

back : (s : Subrecord) (b : ℕ) → b < 256 → Bits s b → subrecord_of b (behind_first s) ≡ s
back s b lt h = grind (arith, h)

from : (s : Subrecord) (b : ℕ) (text : List ℕ) → b < 256 → Bits s b → Tail s text
    → (Behind b).Text (behind_first s) text
from (sub.SetFrame n m) b text lt h l =
    join [] text refl (
      (λ k. omega (arith, k, h.0)),
      refl,
    ) (join text [] (sym (append-nil text)) (
      omega (arith, h.0, lt),
      frame_from m b text lt h.0 h.1 l,
    ) ((λ k. omega (arith, k, h.0)), refl))
from (sub.SetTarget n m) b text lt h l =
    join text [] (sym (append-nil text)) (
      omega (arith, h.0, lt),
      target_from m text l,
    ) (join [] [] refl ((λ k. omega (arith, k, h.0)), refl) (
      (λ k. omega (arith, k, h.0, lt)),
      refl,
    ))
from (sub.Fixup f) b text lt h l = join [] text refl (
  (λ k. omega (arith, k, h.0)),
  refl,
) (join [] text refl ((λ k. omega (arith, k, h.0, lt)), refl) (omega (arith, h.0), l))

has_place : (f : Fixup) → IsFirst (fixup_byte f) → f.offset < 1024
has_place f h = grind (arith, ltb-true, ltb-false, h.2)

first_bits : (s : Subrecord) → IsFirst (first_byte s) → (first_byte s < 256) × Bits s (first_byte s)
first_bits (sub.Fixup f) h = let p = has_place f h in rw (lt-ltb f.offset 1024 p) (grind arith)
first_bits _ h = grind arith

best : (s : Subrecord) (b : ℕ) → Bits s b → (first_byte s < 256) × Bits s (first_byte s)
best (sub.Fixup f) b h = let p : f.offset < 1024 = omega (arith, h.3) in rw (lt-ltb f.offset 1024 p) (grind arith)
best _ b h = grind arith

texts : (s : Subrecord) (text : List ℕ) → (Joined (One (Bits s)) (Tail s) text → SubrecordText s text)
    × (SubrecordText s text → Joined (One (Bits s)) (Tail s) text)
texts (sub.SetFrame _ _) text = ((λ l. l), (λ l. l))
texts (sub.SetTarget _ _) text = ((λ l. l), (λ l. l))
texts (sub.Fixup _) text = ((λ l. l), (λ l. l))

same : (s : Subrecord) → IsFirst (first_byte s)
    → first_byte s ∷ (Behind (first_byte s)).canonical (behind_first s) ≡ canon.subrecord s
same (sub.SetFrame n m) h = rw (append-nil (when_canonical canon.index (frame_method_index m)), frame_same m) refl
same (sub.SetTarget n m) h = rw (append-nil (canon.index (target_method_index m)), target_same m) refl
same (sub.Fixup f) h = rw (lt-ltb f.offset 1024 (has_place f h)) refl

pub ByFirst : ByHead IsFirst Behind Bits Tail SubrecordText canon.subrecord subrecord_of first_byte behind_first
ByFirst = record {
  to = to;
  begins = begins;
  back = back;
  from = from;
  valid = first_bits;
  best = best;
  same = same;
  view = λ b x. rw (
    map_same (λ x. x) (λ x. refl) x.0,
    map_same (map_option (λ x. x)) (map_same (λ x. x) (λ x. refl)) x.1.0,
    map_same (λ x. x) (λ x. refl) x.1.1,
  ) refl;
  texts = texts;
}

-- subrecords
abbrev pub subrecord : Format Subrecord Subrecord
subrecord = free (λ x. x) SubrecordText canon.subrecord

pub subrecord_made : IsMade (behind (fact_byte IsFirst) Behind (λ rest. Unit {0})) subrecord
subrecord_made = by_head ByFirst

pub behind_lawful : (b : ℕ) → Lawful (Behind b)
behind_lawful b = both_lawful _ (when_lawful (bits_at 64 4 b ≡ 0) index index_lawful (λ r. tt)) (λ r. tt) _
    (both_lawful _ (when_lawful (bits_at 64 4 b ≡ 1) _ (when_lawful (bits_at 16 2 b ≡ 0) index index_lawful (λ r. tt))
    (λ r. tt)) (λ r. tt) _ (when_lawful (bits_at 128 2 b ≡ 1) _
    (both_lawful byte byte_lawful (λ r. tt) reference reference_lawful) (λ r. tt)))

pub behind_blank : (b : ℕ) → Completes (Behind b) []
behind_blank b =
    let fixup = both byte reference in
    both_blank (when (bits_at 64 4 b ≡ 0) index)
    (both (when (bits_at 64 4 b ≡ 1) (when (bits_at 16 2 b ≡ 0) index)) (when (bits_at 128 2 b ≡ 1) fixup))
    (when_blank (bits_at 64 4 b) 0 index index_blank)
    (both_blank (when (bits_at 64 4 b ≡ 1) (when (bits_at 16 2 b ≡ 0) index)) (when (bits_at 128 2 b ≡ 1) fixup)
    (when_blank (bits_at 64 4 b) 1 (when (bits_at 16 2 b ≡ 0) index) (when_blank (bits_at 16 2 b) 0 index index_blank))
    (when_blank (bits_at 128 2 b) 1 fixup
    (both_blank byte reference byte_blank reference_blank)))

pub subrecord_lawful : Lawful subrecord
subrecord_lawful = by_head_lawful ByFirst behind_lawful (λ b r. tt)

pub subrecord_filled : IsFilled subrecord
subrecord_filled = by_head_filled ByFirst
