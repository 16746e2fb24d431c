-- What a segment is made of: the byte A, C, B, P, and what it says stands behind it.
use Rattle.std.proofs.Common.{◌≡◌, ℕ, ◌/◌, ◌%◌, ◌<◌, cond, eqb, List, [], ◌∷◌, ◌++◌, Option, Some, None, refl, sym, ap}
use Rattle.std.proofs.Common.{subst, ◌∙◌, append-nil, arith}
use Rattle.std.proofs.lemmas.Bool.{eqb-true, eqb-false}
use Rattle.omf_record.specs.Language.{◌⋆◌ as Joined, Word, Index}
use Rattle.omf_record.specs.Body.{bits, AbsoluteText, Acbp}
use Rattle.omf_record.specs.inside.Fields.{SegmentText}
use Rattle.omf_record.specs.Numbers.{alignment_number, combination_number, length_code}
use Rattle.omf_record.specs.Canonical as canon
use Rattle.omf_codec.specs.inside.Format.{join, Format, Lawful, Completes, IsMade, free}
use Rattle.omf_codec.specs.inside.FormatLaws.{both, both_lawful, both_blank, behind, when, when_lawful, when_blank}
use Rattle.omf_codec.specs.inside.FormatLaws.{when_canonical, WhenText, bits_at, map_same}
use Rattle.omf_codec.specs.inside.PrimitiveLaws.{byte, byte_lawful, byte_blank, word, word_lawful, word_blank, index}
use Rattle.omf_codec.specs.inside.PrimitiveLaws.{index_lawful, index_blank, fact_byte, fact_byte_lawful}
use Rattle.omf_codec.specs.inside.PrimitiveLaws.{fact_byte_blank, IsZero}
use Rattle.omf_codec.specs.inside.Heads.{ByHead, joined, by_head, by_head_lawful}
use Rattle.omf_record.specs.Types.{Alignment, Combination, SegmentLength, SegmentDefinition}
use Rattle.omf_record.specs.declared.segments.Alignment.TheVariants as align
use Rattle.omf_record.specs.declared.segments.Combination.TheVariants as combine
use Rattle.omf_record.specs.declared.segments.SegmentLength.TheVariants as len

-- ---- alignments, combinations, lengths

-- the alignment of this number, of a segment that isn't absolute
abbrev pub alignment_of : ℕ → Alignment
alignment_of a = cond (eqb a 1) align.Byte
    (cond (eqb a 2) align.Word (cond (eqb a 3) align.Paragraph (cond (eqb a 4) align.Page align.DoubleWord)))

-- the alignment of this number, with the place of an absolute segment
abbrev pub alignment_in : ℕ → Option (ℕ × ℕ) → Alignment
alignment_in n (Some x) = align.Absolute x.0 x.1
alignment_in n None = alignment_of n

-- the frame and the offset of an absolute segment
abbrev pub absolute_of : Alignment → Option (ℕ × ℕ)
absolute_of (align.Absolute frame offset) = Some (frame, offset)
absolute_of _ = None

pub alignment_to : (b : ℕ) (x : Option (ℕ × ℕ)) (text : List ℕ) → b < 256 → b / 32 < 6
    → WhenText (bits_at 32 8 b ≡ 0) (both word byte).Text x text
    → (bits 7 5 b ≡ alignment_number (alignment_in (b / 32) x)) × AbsoluteText (alignment_in (b / 32) x) text
alignment_to b (Some x) text lt h l = (omega (arith, l.0, lt), l.1)
alignment_to b None text lt h l = grind (arith, eqb-true, eqb-false, l)

pub alignment_from : (a : Alignment) (b : ℕ) (text : List ℕ) → bits 7 5 b ≡ alignment_number a → AbsoluteText a text
    → WhenText (bits_at 32 8 b ≡ 0) (both word byte).Text (absolute_of a) text
alignment_from (align.Absolute f o) b text e l = (omega (arith, e), l)
alignment_from _ b text e l = ((λ k. omega (arith, k, e)), l)

pub alignment_back : (a : Alignment) (b : ℕ) → b < 256 → bits 7 5 b ≡ alignment_number a → (b / 32 < 6)
    × (alignment_in (b / 32) (absolute_of a) ≡ a)
alignment_back a b lt e = grind (arith, e)

pub alignment_same : (a : Alignment) → (when_canonical (both word byte).canonical (absolute_of a) ≡ canon.absolute_text a)
    × (alignment_number a < 6)
alignment_same a = grind arith

-- the combination of this number
abbrev pub combination_of : ℕ → Combination
combination_of c = cond (eqb c 0) combine.Private
    (cond (eqb c 2) combine.Public2 (cond (eqb c 4) combine.Public4
    (cond (eqb c 5) combine.Stack (cond (eqb c 6) combine.Common combine.Public7))))

pub combination_back : (c : Combination) (n : ℕ) → n ≡ combination_number c → (combination_of n ≡ c)
    × (combination_number c < 8)
combination_back c n e = grind (arith, e)

pub zero_blank : Completes (fact_byte IsZero) []
zero_blank = fact_byte_blank IsZero refl

-- two bytes 00, or a word
abbrev pub Length : ℕ → Format (Option (ℕ × ℕ) × Option ℕ) (Option (ℕ × ℕ) × Option ℕ)
Length b = both (when (bits_at 2 2 b ≡ 1) (both (fact_byte IsZero) (fact_byte IsZero))) (when (bits_at 2 2 b ≡ 0) word)

-- the length that two bytes 00 or a word say
abbrev pub length_of : Option (ℕ × ℕ) × Option ℕ → SegmentLength
length_of (z, Some n) = len.Word n
length_of (z, None) = len.Whole

-- two bytes 00 or a word, for a length
abbrev pub length_parts : SegmentLength → Option (ℕ × ℕ) × Option ℕ
length_parts (len.Word n) = (None, Some n)
length_parts len.Whole = (Some (0, 0), None)

length_to : (b : ℕ) (x : Option (ℕ × ℕ) × Option ℕ) (text : List ℕ) → (Length b).Text x text
    → (bits 1 1 b ≡ (length_code (length_of x)).0) × Word (length_code (length_of x)).1 text
length_to b (Some z, Some n) text j = absurd (omega (arith, j.first.0, j.second.0))
length_to b (None, Some n) text j = (
  j.second.0,
  subst (Word n) (sym (j.parts ∙ ap (λ (t : List ℕ). t ++ j.rest) j.first.1)) j.second.1,
)
length_to b (Some (x, y), None) text j =
    let z = j.first.1 in
    let front : j.front ≡ 0 ∷ 0 ∷ [] = z.parts
    ∙ ap (λ (t : List ℕ). t ++ z.rest) (z.first.1.1 ∙ ap (λ n. n ∷ []) z.first.0)
    ∙ ap (λ (t : List ℕ). 0 ∷ t) (z.second.1.1 ∙ ap (λ n. n ∷ []) z.second.0) in
    (j.first.0, (omega arith, j.parts ∙ ap (λ (t : List ℕ). j.front ++ t) j.second.1 ∙ append-nil j.front ∙ front))
length_to b (None, None) text j = absurd (let n1 = j.first.0 in let n0 = j.second.0 in omega (arith, n1, n0))

length_from : (l : SegmentLength) (b : ℕ) (text : List ℕ) → bits 1 1 b ≡ (length_code l).0 → Word (length_code l).1 text
    → (Length b).Text (length_parts l) text
length_from (len.Word n) b text e l = join [] text refl ((λ k. omega (arith, k, e)), refl) (e, l)
length_from len.Whole b text e l = join (0 ∷ 0 ∷ []) [] l.1 (
  e,
  join (0 ∷ []) (0 ∷ []) refl (refl, (omega arith, refl)) (refl, (omega arith, refl)),
) (
  (λ k. omega (arith, k, e)),
  refl,
)

length_back : (l : SegmentLength) → (length_of (length_parts l) ≡ l)
    × ((Length 0).canonical (length_parts l) ≡ canon.word (length_code l).1) × ((length_code l).0 < 2)
length_back l = grind arith

-- ---- segments

-- a byte A, C, B, P of some segment
abbrev pub IsAcbp : ℕ → Type 0
IsAcbp b = (b / 32 < 6) × (combination_number (combination_of (b / 4 % 8)) ≡ b / 4 % 8) × (b % 2 ≡ 0)

-- what a segment says behind that byte
abbrev pub Tail : Type 0
Tail = Option (ℕ × ℕ) × ((Option (ℕ × ℕ) × Option ℕ) × (ℕ × (ℕ × ℕ)))

-- what stands behind that byte
abbrev pub Behind : ℕ → Format Tail Tail
Behind b = both (when (bits_at 32 8 b ≡ 0) (both word byte)) (both (Length b) (both index (both index index)))

-- the segment that the byte and what stands behind it say
abbrev pub segment_of : ℕ → Tail → SegmentDefinition
segment_of b x = record {
  alignment = alignment_in (b / 32) x.0;
  combination = combination_of (b / 4 % 8);
  length = length_of x.1.0;
  name = x.1.1.0;
  class = x.1.1.1.0;
  overlay = x.1.1.1.1;
}

-- what stands behind the byte of a segment
abbrev pub segment_tail : SegmentDefinition → Tail
segment_tail s = (absolute_of s.alignment, (length_parts s.length, (s.name, (s.class, s.overlay))))

abbrev Text : SegmentDefinition → List ℕ → Type 0
Text s = Joined (AbsoluteText s.alignment)
    (Joined (Word (length_code s.length).1) (Joined (Index s.name) (Joined (Index s.class) (Index s.overlay))))

acbp_bits : (s : SegmentDefinition) → (canon.acbp s < 256) × Acbp s (canon.acbp s)
acbp_bits s =
    let a = (alignment_same s.alignment).1 in
    let c = (combination_back s.combination (combination_number s.combination) refl).1 in
    let l = (length_back s.length).2 in (
      omega (arith, a, c, l),
      (
        omega (arith, a, c, l),
        omega (arith, a, c, l),
        omega (arith, a, c, l),
        omega (arith, a, c, l),
      ),
    )

pub ByAcbp : ByHead IsAcbp Behind Acbp Text SegmentText canon.segment segment_of canon.acbp segment_tail
ByAcbp = record {
  to = λ b x text lt h j.
      let a = alignment_to b x.0 j.front lt h.0 j.first in
      let l = length_to b x.1.0 j.second.front j.second.first in
      ((a.0, sym h.1, l.0, omega (arith, h.2)), joined j a.1 (joined j.second l.1 j.second.second));
  begins = λ s b lt h. let c = (combination_back s.combination (b / 4 % 8) h.1).0 in
      ((alignment_back s.alignment b lt h.0).0, ap combination_number c ∙ sym h.1, omega (arith, h.3));
  back = λ s b lt h. rw (
    (alignment_back s.alignment b lt h.0).1,
    (combination_back s.combination (b / 4 % 8) h.1).0,
    (length_back s.length).0,
  ) refl;
  from = λ s b text lt h j. joined j (alignment_from s.alignment b j.front h.0 j.first)
      (joined j.second (length_from s.length b j.second.front h.2 j.second.first) j.second.second);
  valid = λ s h. acbp_bits s;
  best = λ s b h. acbp_bits s;
  same = λ s h. rw ((alignment_same s.alignment).0, (length_back s.length).1) refl;
  view = λ b x. rw (
    map_same (λ x. x) (λ x. refl) x.0,
    map_same (λ x. x) (λ x. refl) x.1.0.0,
    map_same (λ x. x) (λ x. refl) x.1.0.1,
  ) refl;
  texts = λ s text. ((λ l. l), (λ l. l));
}

-- segments
abbrev pub segment : Format SegmentDefinition SegmentDefinition
segment = free (λ x. x) SegmentText canon.segment

pub segment_made : IsMade (behind (fact_byte IsAcbp) Behind (λ rest. Unit {0})) segment
segment_made = by_head ByAcbp

pub acbp_zero : IsAcbp 0
acbp_zero = (omega arith, refl, refl)

pub behind_lawful : (b : ℕ) → Lawful (Behind b)
behind_lawful b = both_lawful _
    (when_lawful (bits_at 32 8 b ≡ 0) _ (both_lawful word word_lawful (λ r. tt) byte byte_lawful) (λ r. tt)) (λ r. tt) _
    (both_lawful (Length b) length_lawful (λ r. tt) _
    (both_lawful index index_lawful (λ r. tt) _ (both_lawful index index_lawful (λ r. tt) index index_lawful)))
  where
    length_lawful : Lawful (Length b)
    length_lawful = both_lawful _ (when_lawful (bits_at 2 2 b ≡ 1) _
        (both_lawful (fact_byte IsZero) (fact_byte_lawful IsZero) (λ r. tt) (fact_byte IsZero)
        (fact_byte_lawful IsZero)) (λ r. tt)) (λ r. tt) _ (when_lawful (bits_at 2 2 b ≡ 0) word word_lawful (λ r. tt))

pub behind_blank : (b : ℕ) → Completes (Behind b) []
behind_blank b = both_blank (when (bits_at 32 8 b ≡ 0) (both word byte))
    (both (Length b) (both index (both index index)))
    (when_blank (bits_at 32 8 b) 0 (both word byte) (both_blank word byte word_blank byte_blank))
    (both_blank (Length b) (both index (both index index))
    (both_blank (when (bits_at 2 2 b ≡ 1) (both (fact_byte IsZero) (fact_byte IsZero)))
    (when (bits_at 2 2 b ≡ 0) word) (when_blank (bits_at 2 2 b) 1 (both (fact_byte IsZero) (fact_byte IsZero))
    (both_blank (fact_byte IsZero) (fact_byte IsZero) zero_blank zero_blank))
    (when_blank (bits_at 2 2 b) 0 word word_blank))
    (both_blank index (both index index) index_blank (both_blank index index index_blank index_blank)))

pub segment_lawful : Lawful segment
segment_lawful = by_head_lawful ByAcbp behind_lawful (λ b r. tt)
