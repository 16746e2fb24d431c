-- What a segment is made of whose length has two bytes or four: the byte A, C, B, P, and what it says stands behind it.
use Rattle.std.proofs.Common.{◌≡◌, ℕ, ◌+◌, ◌*◌, ◌/◌, ◌%◌, ◌<◌, Bool, eqb, List, [], ◌∷◌, ◌++◌, Option, refl, ap}
use Rattle.std.proofs.Common.{arith, ◌∙◌}
use Rattle.std.proofs.lemmas.Bool.{eqb-true, eqb-false}
use Rattle.omf_codec.specs.Language.{◌⋆◌ as Joined, Index, Little, little, width_of}
use Rattle.omf_codec.specs.inside.Format.{Format, Lawful, Completes, IsMade, free}
use Rattle.omf_codec.specs.inside.FormatLaws.{both, both_lawful, both_blank, behind, when, when_lawful, when_blank}
use Rattle.omf_codec.specs.inside.FormatLaws.{bits_at, map_same}
use Rattle.omf_codec.specs.inside.Heads.{ByHead, joined, by_head, by_head_lawful}
use Rattle.omf_codec.specs.inside.Numbers.{number, number_lawful, number_blank}
use Rattle.omf_codec.specs.inside.PrimitiveLaws.{byte, byte_lawful, byte_blank, word, word_lawful, word_blank, index}
use Rattle.omf_codec.specs.inside.PrimitiveLaws.{index_lawful, index_blank, fact_byte}
use Rattle.omf_record.specs.Body.{AbsoluteText}
use Rattle.omf_record.specs.Canonical as canon
use Rattle.omf_record.specs.Numbers.{bit, alignment_number, combination_number}
use Rattle.omf_record.specs.inside.Segments.{alignment_in, absolute_of, alignment_to, alignment_from, alignment_back}
use Rattle.omf_record.specs.inside.Segments.{alignment_same, combination_of, combination_back}
use Rattle.omf_wide.specs.Body.{Acbp, SegmentAt}
use Rattle.omf_wide.specs.declared.segments.WideSegment.{WideSegment}

flag_to : (n : ℕ) → n < 2 → n ≡ bit (eqb n 1)
flag_to n lt = grind (arith, eqb-true, eqb-false)

flag_back : (flag : Bool) (n : ℕ) → n ≡ bit flag → eqb n 1 ≡ flag
flag_back flag n e = grind (arith, eqb-true, eqb-false, e)

flag_small : (flag : Bool) → bit flag < 2
flag_small flag = grind arith

-- a byte A, C, B, P of some segment
abbrev pub IsAcbp : ℕ → Type 0
IsAcbp b = (b / 32 < 6) × (combination_number (combination_of (b / 4 % 8)) ≡ b / 4 % 8)

pub acbp_zero : IsAcbp 0
acbp_zero = (omega arith, refl)

-- what a segment says behind that byte
abbrev pub Tail : Type 0
Tail = Option (ℕ × ℕ) × (ℕ × (ℕ × (ℕ × ℕ)))

-- what stands behind that byte
abbrev pub Behind : Bool → ℕ → Format Tail Tail
Behind wide b =
    both (when (bits_at 32 8 b ≡ 0) (both word byte)) (both (number wide) (both index (both index index)))

-- the segment that the byte and what stands behind it say
abbrev pub segment_of : ℕ → Tail → WideSegment
segment_of b x = record {
  alignment = alignment_in (b / 32) x.0;
  combination = combination_of (b / 4 % 8);
  big = eqb (b / 2 % 2) 1;
  use32 = eqb (b % 2) 1;
  length = x.1.0;
  name = x.1.1.0;
  class = x.1.1.1.0;
  overlay = x.1.1.1.1;
}

-- the byte of a segment
abbrev pub acbp : WideSegment → ℕ
acbp s = 32 * alignment_number s.alignment + 4 * combination_number s.combination + 2 * bit s.big + bit s.use32

-- what stands behind the byte of a segment
abbrev pub segment_tail : WideSegment → Tail
segment_tail s = (absolute_of s.alignment, (s.length, (s.name, (s.class, s.overlay))))

-- the canonical text
abbrev pub segment_text : Bool → WideSegment → List ℕ
segment_text wide s =
    acbp s
    ∷ (canon.absolute_text s.alignment
    ++ (little (width_of wide) s.length ++ (canon.index s.name ++ (canon.index s.class ++ canon.index s.overlay))))

acbp_bits : (s : WideSegment) → (acbp s < 256) × Acbp s (acbp s)
acbp_bits s =
    let a = (alignment_same s.alignment).1 in
    let c = (combination_back s.combination (combination_number s.combination) refl).1 in
    let l = flag_small s.big in
    let p = flag_small s.use32 in (
      omega (arith, a, c, l, p),
      (
        omega (arith, a, c, l, p),
        omega (arith, a, c, l, p),
        omega (arith, a, c, l, p),
        omega (arith, a, c, l, p),
      ),
    )

module _ (wide : Bool) where
  abbrev Text : WideSegment → List ℕ → Type 0
  Text s = Joined (AbsoluteText s.alignment)
      (Joined (Little (width_of wide) s.length) (Joined (Index s.name) (Joined (Index s.class) (Index s.overlay))))

  pub ByAcbp : ByHead IsAcbp (Behind wide) Acbp Text (SegmentAt (width_of wide)) (segment_text wide) segment_of acbp
      segment_tail
  ByAcbp = record {
    to = λ b x text lt h j.
        let a = alignment_to b x.0 j.front lt h.0 j.first in
        let big : b / 2 % 2 < 2 = omega arith in
        let use32 : b % 2 < 2 = omega arith in (
          (a.0, omega (arith, h.1), omega (arith, flag_to (b / 2 % 2) big), omega (arith, flag_to (b % 2) use32)),
          joined j a.1 j.second,
        );
    begins = λ s b lt h. let c = (combination_back s.combination (b / 4 % 8) (omega (arith, h.1))).0 in
        ((alignment_back s.alignment b lt h.0).0, ap combination_number c ∙ omega (arith, h.1));
    back = λ s b lt h. rw (
      (alignment_back s.alignment b lt h.0).1,
      (combination_back s.combination (b / 4 % 8) (omega (arith, h.1))).0,
      flag_back s.big (b / 2 % 2) (omega (arith, h.2)),
      flag_back s.use32 (b % 2) (omega (arith, h.3)),
    ) refl;
    from = λ s b text lt h j. joined j (alignment_from s.alignment b j.front h.0 j.first) j.second;
    valid = λ s h. acbp_bits s;
    best = λ s b h. acbp_bits s;
    same = λ s h. rw (alignment_same s.alignment).0 refl;
    view = λ b x. rw (map_same (λ x. x) (λ x. refl) x.0) refl;
    texts = λ s text. ((λ l. l), (λ l. l));
  }

  -- segments
  abbrev pub segment : Format WideSegment WideSegment
  segment = free (λ x. x) (SegmentAt (width_of wide)) (segment_text wide)

  pub segment_made : IsMade (behind (fact_byte IsAcbp) (Behind wide) (λ rest. Unit {0})) segment
  segment_made = by_head ByAcbp

  pub behind_lawful : (b : ℕ) → Lawful (Behind wide b)
  behind_lawful b = both_lawful _
      (when_lawful (bits_at 32 8 b ≡ 0) _ (both_lawful word word_lawful (λ r. tt) byte byte_lawful) (λ r. tt)) (λ r. tt) _
      (both_lawful (number wide) (number_lawful wide) (λ r. tt) _
      (both_lawful index index_lawful (λ r. tt) _ (both_lawful index index_lawful (λ r. tt) index index_lawful)))

  pub behind_blank : (b : ℕ) → Completes (Behind wide b) []
  behind_blank b = both_blank (when (bits_at 32 8 b ≡ 0) (both word byte))
      (both (number wide) (both index (both index index)))
      (when_blank (bits_at 32 8 b) 0 (both word byte) (both_blank word byte word_blank byte_blank))
      (both_blank (number wide) (both index (both index index)) (number_blank wide)
      (both_blank index (both index index) index_blank (both_blank index index index_blank index_blank)))

  pub segment_lawful : Lawful segment
  segment_lawful = by_head_lawful ByAcbp behind_lawful (λ b r. tt)
