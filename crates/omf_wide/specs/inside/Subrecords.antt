-- What a subrecord is made of whose displacement has two bytes or four: its first byte, and what that says stands behind
-- it.
use Rattle.std.proofs.Common.{◌≡◌, ◌≢◌, ℕ, ◌+◌, ◌-◌, ◌*◌, ◌/◌, ◌%◌, ◌<◌, Bool, cond, eqb, ltb, List, [], ◌∷◌, ◌++◌}
use Rattle.std.proofs.Common.{Option, Some, None, refl, sym, ap, subst, ◌∙◌, append-nil, arith}
use Rattle.std.proofs.lemmas.Bool.{eqb-true, eqb-false, ltb-true, ltb-false, lt-ltb}
use Rattle.omf_codec.specs.Language.{◌⋆◌ as Joined, Byte, Index, One, width_of}
use Rattle.omf_codec.specs.inside.Format.{join, Format, Lawful, Completes, IsFilled, IsMade, free}
use Rattle.omf_codec.specs.inside.FormatLaws.{both, both_lawful, both_blank, behind, when_lawful, when_blank}
use Rattle.omf_codec.specs.inside.FormatLaws.{when, when_canonical, WhenText, bits_at, map_option, map_same}
use Rattle.omf_codec.specs.inside.PrimitiveLaws.{byte, byte_lawful, byte_blank, index, index_lawful, index_blank}
use Rattle.omf_codec.specs.inside.PrimitiveLaws.{fact_byte}
use Rattle.omf_codec.specs.inside.Heads.{ByHead, joined, by_head, by_head_lawful, by_head_filled}
use Rattle.omf_record.specs.Body.{bits}
use Rattle.omf_record.specs.Canonical as canon
use Rattle.omf_record.specs.Numbers.{bit, thread_number}
use Rattle.omf_record.specs.declared.fixups.FrameMethod.{FrameMethod}
use Rattle.omf_record.specs.declared.fixups.TargetMethod.{TargetMethod}
use Rattle.omf_record.specs.inside.Fields.{FrameIndex, TargetIndex, frame_number, target_number}
use Rattle.omf_record.specs.inside.References.{thread_of, frame_method_of, frame_method_index, target_method_of}
use Rattle.omf_record.specs.inside.References.{target_method_index}
use Rattle.omf_record.specs.inside.Subrecords as narrow
use Rattle.omf_record.specs.inside.Subrecords.{frame_to, target_to, frame_from, target_from, frame_same, target_same}
use Rattle.omf_wide.specs.Body.{ReferenceAt, SubrecordAt}
use Rattle.omf_wide.specs.Numbers.{location_number}
use Rattle.omf_wide.specs.declared.fixups.WideLocation.{WideLocation}
use Rattle.omf_wide.specs.declared.fixups.WideLocation.TheVariants.{Of16Bits, Offset32, LoaderOffset32}
use Rattle.omf_wide.specs.declared.fixups.WideReference.{WideReference}
use Rattle.omf_wide.specs.declared.fixups.WideFixup.{WideFixup}
use Rattle.omf_wide.specs.declared.fixups.WideSubrecord.{WideSubrecord}
use Rattle.omf_wide.specs.declared.fixups.WideSubrecord.TheVariants as sub
use Rattle.omf_wide.specs.inside.References.{reference, reference_text, reference_lawful, reference_blank}

-- the location of this number
abbrev pub location_of : ℕ → WideLocation
location_of n = cond (eqb n 9) Offset32 (cond (eqb n 13) LoaderOffset32 (Of16Bits (narrow.location_of n)))

-- no target method 3, no frame method 3, 6 or 7, and no location but 0 to 3, 5, 9 and 13
abbrev pub IsFirst : ℕ → Type 0
IsFirst b = (b / 64 ≡ 0 → b / 4 % 4 < 3) × (b / 64 ≡ 1 → (b / 4 % 8 ≢ 3) × (b / 4 % 8 < 6))
    × (b / 128 ≡ 1 → location_number (location_of (b / 4 % 16)) ≡ b / 4 % 16)

-- the indexes and the fix-up behind the first byte, where they stand there
abbrev pub Parts : Type 0
Parts = Option ℕ × (Option (Option ℕ) × Option (ℕ × WideReference))

-- what stands behind the first byte
abbrev pub Behind : Bool → ℕ → Format Parts Parts
Behind wide b = both (when (bits_at 64 4 b ≡ 0) index)
    (both (when (bits_at 64 4 b ≡ 1) (when (bits_at 16 2 b ≡ 0) index))
    (when (bits_at 128 2 b ≡ 1) (both byte (reference wide))))

abbrev Bits : WideSubrecord → ℕ → Type 0
Bits (sub.SetFrame n m) b = (bits 7 6 b ≡ 1) × (bits 4 2 b ≡ frame_number m) × (bits 1 0 b ≡ thread_number n)
Bits (sub.SetTarget n m) b = (bits 7 6 b ≡ 0) × (bits 3 2 b ≡ target_number m) × (bits 1 0 b ≡ thread_number n)
Bits (sub.Fixup f) b = (bits 7 7 b ≡ 1) × (bits 6 6 b ≡ 1 - bit f.self_relative)
    × (bits 5 2 b ≡ location_number f.location) × (bits 1 0 b ≡ f.offset / 256)

-- the subrecord that its first byte and what stands behind it say
abbrev pub subrecord_of : ℕ → Parts → WideSubrecord
subrecord_of b (t, (f, Some (low, r))) =
    sub.Fixup (record {
      self_relative = eqb (b / 64 % 2) 0;
      location = location_of (b / 4 % 16);
      offset = 256 * (b % 4) + low;
      reference = r;
    })
subrecord_of b (t, (Some x, None)) = sub.SetFrame (thread_of (b % 4)) (frame_method_of (b / 4 % 8) x)
subrecord_of b (Some i, (None, None)) = sub.SetTarget (thread_of (b % 4)) (target_method_of (b / 4 % 4) i)
subrecord_of b (None, (None, None)) = sub.SetTarget (thread_of (b % 4)) (target_method_of (b / 4 % 4) 0)

-- 144 begins nothing
abbrev pub fixup_byte : WideFixup → ℕ
fixup_byte f = cond (ltb f.offset 1024) (128 + 64 *
    (1 - bit f.self_relative) + 4 * location_number f.location + f.offset / 256) 144

-- the first byte of a subrecord
abbrev pub first_byte : WideSubrecord → ℕ
first_byte (sub.SetFrame n m) = 64 + 4 * frame_number m + thread_number n
first_byte (sub.SetTarget n m) = 4 * target_number m + thread_number n
first_byte (sub.Fixup f) = fixup_byte f

-- what stands behind the first byte of a subrecord
abbrev pub behind_first : WideSubrecord → Parts
behind_first (sub.SetFrame n m) = (None, (Some (frame_method_index m), None))
behind_first (sub.SetTarget n m) = (Some (target_method_index m), (None, None))
behind_first (sub.Fixup f) = (None, (None, Some (f.offset % 256, f.reference)))

-- the canonical text
abbrev pub subrecord_text : Bool → WideSubrecord → List ℕ
subrecord_text wide (sub.SetFrame n m) = (64 + 4 * frame_number m + thread_number n) ∷ canon.frame_index m
subrecord_text wide (sub.SetTarget n m) = (4 * target_number m + thread_number n) ∷ canon.target_index m
subrecord_text wide (sub.Fixup f) =
    (128 + 64 * (1 - bit f.self_relative) + 4 * location_number f.location + f.offset / 256)
    ∷ f.offset % 256 ∷ reference_text wide f.reference

module _ (wide : Bool) where
  abbrev Tail : WideSubrecord → List ℕ → Type 0
  Tail (sub.SetFrame n m) = FrameIndex m
  Tail (sub.SetTarget n m) = TargetIndex m
  Tail (sub.Fixup f) = Joined (Byte (f.offset % 256)) (ReferenceAt (width_of wide) f.reference)

  to : (b : ℕ) (x : Parts) (text : List ℕ) → b < 256 → IsFirst b
      → (Behind wide b).Text x text → Bits (subrecord_of b x) b × Tail (subrecord_of b x) text
  to b (Some i, (f, Some (low, r))) text lt h j = absurd (omega (arith, j.first.0, j.second.second.0))
  to b (None, (Some x, Some (low, r))) text lt h j = absurd (omega (arith, j.second.first.0, j.second.second.0))
  to b (None, (None, Some (low, r))) text lt h j =
      let k = j.second.second.1 in
      let is = h.2 (omega (arith, j.second.second.0, lt)) in
      let small = k.first.0 in
      let low-is : low ≡ (256 * (b % 4) + low) % 256 = omega (arith, small) in
      let rest-is : text ≡ j.second.rest = j.parts ∙ ap (λ (t : List ℕ). t ++ j.rest) j.first.1 ∙ j.second.parts
      ∙ ap (λ (t : List ℕ). t ++ j.second.rest) j.second.first.1 in (
        (
          omega (arith, j.second.second.0, lt),
          grind (arith, eqb-true, eqb-false),
          omega (arith, is),
          omega (arith, small),
        ),
        subst (λ t. Joined (Byte ((256 * (b % 4) + low) % 256)) (ReferenceAt (width_of wide) r) t) (sym rest-is)
            (joined k (subst (λ n. Byte n k.front) low-is k.first) k.second),
      )
  to b (Some i, (Some x, None)) text lt h j = absurd (omega (arith, j.first.0, j.second.first.0))
  to b (None, (Some x, None)) text lt h j =
      let high = j.second.first.0 in
      let text-is : text ≡ j.second.front = j.parts ∙ ap (λ (t : List ℕ). t ++ j.rest) j.first.1 ∙ j.second.parts
      ∙ ap (λ (t : List ℕ). j.second.front ++ t) j.second.second.1 ∙ append-nil j.second.front in
      let is = frame_to (b / 4 % 8) (b / 16 % 2) x j.second.front (h.1 (omega (arith, high, lt)))
      (omega (arith, high)) j.second.first.1 in (
        (omega (arith, high), is.0, grind (arith, eqb-true, eqb-false)),
        subst (FrameIndex (frame_method_of (b / 4 % 8) x)) (sym text-is) is.1,
      )
  to b (Some i, (None, None)) text lt h j =
      let is = target_to (b / 4 % 4) i j.front (h.0 (omega (arith, j.first.0, lt))) j.first.1 in
      let text-is : text ≡ j.front = j.parts ∙ ap (λ (t : List ℕ). j.front ++ t) (j.second.parts
      ∙ ap (λ (t : List ℕ). t ++ j.second.rest) j.second.first.1 ∙ j.second.second.1) ∙ append-nil j.front in (
        (omega (arith, j.first.0, lt), is.0, grind (arith, eqb-true, eqb-false)),
        subst (TargetIndex (target_method_of (b / 4 % 4) i)) (sym text-is) is.1,
      )
  to b (None, (None, None)) text lt h j = absurd (let n0 = j.first.0 in let n1 = j.second.first.0 in
      let n2 = j.second.second.0 in omega (arith, n0, n1, n2, lt))

  begins : (s : WideSubrecord) (b : ℕ) → b < 256 → Bits s b → IsFirst b
  begins s b lt h = grind (arith, h)

  back : (s : WideSubrecord) (b : ℕ) → b < 256 → Bits s b → subrecord_of b (behind_first s) ≡ s
  back s b lt h = grind (arith, h)

  from : (s : WideSubrecord) (b : ℕ) (text : List ℕ) → b < 256 → Bits s b → Tail s text
      → (Behind wide b).Text (behind_first s) text
  from (sub.SetFrame n m) b text lt h l =
      join [] text refl (
        (λ k. omega (arith, k, h.0)),
        refl,
      ) (join text [] (sym (append-nil text)) (
        omega (arith, h.0, lt),
        frame_from m b text lt h.0 h.1 l,
      ) ((λ k. omega (arith, k, h.0)), refl))
  from (sub.SetTarget n m) b text lt h l =
      join text [] (sym (append-nil text)) (
        omega (arith, h.0, lt),
        target_from m text l,
      ) (join [] [] refl ((λ k. omega (arith, k, h.0)), refl) (
        (λ k. omega (arith, k, h.0, lt)),
        refl,
      ))
  from (sub.Fixup f) b text lt h l = join [] text refl (
    (λ k. omega (arith, k, h.0)),
    refl,
  ) (join [] text refl ((λ k. omega (arith, k, h.0, lt)), refl) (omega (arith, h.0), l))

  has_place : (f : WideFixup) → IsFirst (fixup_byte f) → f.offset < 1024
  has_place f h = grind (arith, ltb-true, ltb-false, h.2)

  first_bits : (s : WideSubrecord) → IsFirst (first_byte s) → (first_byte s < 256) × Bits s (first_byte s)
  first_bits (sub.Fixup f) h = let p = has_place f h in rw (lt-ltb f.offset 1024 p) (grind arith)
  first_bits _ h = grind arith

  best : (s : WideSubrecord) (b : ℕ) → Bits s b → (first_byte s < 256) × Bits s (first_byte s)
  best (sub.Fixup f) b h = let p : f.offset < 1024 = omega (arith, h.3) in rw (lt-ltb f.offset 1024 p) (grind arith)
  best _ b h = grind arith

  texts : (s : WideSubrecord) (text : List ℕ) → (Joined (One (Bits s)) (Tail s) text → SubrecordAt (width_of wide) s text)
      × (SubrecordAt (width_of wide) s text → Joined (One (Bits s)) (Tail s) text)
  texts (sub.SetFrame _ _) text = ((λ l. l), (λ l. l))
  texts (sub.SetTarget _ _) text = ((λ l. l), (λ l. l))
  texts (sub.Fixup _) text = ((λ l. l), (λ l. l))

  same : (s : WideSubrecord) → IsFirst (first_byte s)
      → first_byte s ∷ (Behind wide (first_byte s)).canonical (behind_first s) ≡ subrecord_text wide s
  same (sub.SetFrame n m) h = rw (append-nil (when_canonical canon.index (frame_method_index m)), frame_same m) refl
  same (sub.SetTarget n m) h = rw (append-nil (canon.index (target_method_index m)), target_same m) refl
  same (sub.Fixup f) h = rw (lt-ltb f.offset 1024 (has_place f h)) refl

  pub ByFirst : ByHead IsFirst (Behind wide) Bits Tail (SubrecordAt (width_of wide)) (subrecord_text wide) subrecord_of
      first_byte behind_first
  ByFirst = record {
    to = to;
    begins = begins;
    back = back;
    from = from;
    valid = first_bits;
    best = best;
    same = same;
    view = λ b x. rw (
      map_same (λ x. x) (λ x. refl) x.0,
      map_same (map_option (λ x. x)) (map_same (λ x. x) (λ x. refl)) x.1.0,
      map_same (λ x. x) (λ x. refl) x.1.1,
    ) refl;
    texts = texts;
  }

  -- subrecords
  abbrev pub subrecord : Format WideSubrecord WideSubrecord
  subrecord = free (λ x. x) (SubrecordAt (width_of wide)) (subrecord_text wide)

  pub subrecord_made : IsMade (behind (fact_byte IsFirst) (Behind wide) (λ rest. Unit {0})) subrecord
  subrecord_made = by_head ByFirst

  pub behind_lawful : (b : ℕ) → Lawful (Behind wide b)
  behind_lawful b = both_lawful _ (when_lawful (bits_at 64 4 b ≡ 0) index index_lawful (λ r. tt)) (λ r. tt) _
      (both_lawful _ (when_lawful (bits_at 64 4 b ≡ 1) _ (when_lawful (bits_at 16 2 b ≡ 0) index index_lawful (λ r. tt))
      (λ r. tt)) (λ r. tt) _ (when_lawful (bits_at 128 2 b ≡ 1) _
      (both_lawful byte byte_lawful (λ r. tt) (reference wide) (reference_lawful wide)) (λ r. tt)))

  pub behind_blank : (b : ℕ) → Completes (Behind wide b) []
  behind_blank b =
      let fixup = both byte (reference wide) in
      both_blank (when (bits_at 64 4 b ≡ 0) index)
      (both (when (bits_at 64 4 b ≡ 1) (when (bits_at 16 2 b ≡ 0) index)) (when (bits_at 128 2 b ≡ 1) fixup))
      (when_blank (bits_at 64 4 b) 0 index index_blank)
      (both_blank (when (bits_at 64 4 b ≡ 1) (when (bits_at 16 2 b ≡ 0) index)) (when (bits_at 128 2 b ≡ 1) fixup)
      (when_blank (bits_at 64 4 b) 1 (when (bits_at 16 2 b ≡ 0) index) (when_blank (bits_at 16 2 b) 0 index index_blank))
      (when_blank (bits_at 128 2 b) 1 fixup
      (both_blank byte (reference wide) byte_blank (reference_blank wide))))

  pub subrecord_lawful : Lawful subrecord
  subrecord_lawful = by_head_lawful ByFirst behind_lawful (λ b r. tt)

  pub subrecord_filled : IsFilled subrecord
  subrecord_filled = by_head_filled ByFirst
