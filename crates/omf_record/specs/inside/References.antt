-- What a reference is made of: the fix data byte, and the indexes and the displacement that it says stand behind it.
use Rattle.std.proofs.Common.{◌≡◌, ◌≢◌, ℕ, ◌+◌, ◌*◌, ◌/◌, ◌%◌, ◌<◌, cond, eqb, List, [], Option, Some, None, refl}
use Rattle.std.proofs.Common.{subst, arith}
use Rattle.std.proofs.lemmas.Bool.{eqb-true, eqb-false}
use Rattle.omf_record.specs.Language.{◌⋆◌ as Joined, Index, Word, optional}
use Rattle.omf_record.specs.Body.{bits, ReferenceText}
use Rattle.omf_record.specs.inside.Fields.{FrameBits, TargetBits, FrameText, TargetText}
use Rattle.omf_record.specs.inside.Fields.{FixData}
use Rattle.omf_record.specs.inside.Fields.{absent}
use Rattle.omf_record.specs.Canonical as canon
use Rattle.omf_codec.specs.inside.Format.{Format, IsMade, Lawful, Completes, free}
use Rattle.omf_codec.specs.inside.FormatLaws.{both, both_lawful, both_blank, behind, when, when_lawful, when_blank}
use Rattle.omf_codec.specs.inside.FormatLaws.{when_canonical, WhenText, bits_at, map_same}
use Rattle.omf_codec.specs.inside.PrimitiveLaws.{index, index_lawful, index_blank, word, word_lawful, word_blank}
use Rattle.omf_codec.specs.inside.PrimitiveLaws.{fact_byte}
use Rattle.omf_codec.specs.inside.Heads.{ByHead, joined, by_head, by_head_lawful, by_head_blank}
use Rattle.omf_record.specs.Types.{ThreadNumber, FrameMethod, TargetMethod, Datum, Reference}
use Rattle.omf_record.specs.declared.fixups.ThreadNumber.TheVariants.{Zero, One, Two, Three}
use Rattle.omf_record.specs.declared.fixups.FrameMethod.TheVariants as frame
use Rattle.omf_record.specs.declared.fixups.TargetMethod.TheVariants as target
use Rattle.omf_record.specs.declared.fixups.Datum.TheVariants as datum

-- ---- threads and methods by their numbers

-- the thread of this number
abbrev pub thread_of : ℕ → ThreadNumber
thread_of n = cond (eqb n 0) Zero (cond (eqb n 1) One (cond (eqb n 2) Two Three))

-- the target's method of this number, with the index behind it
abbrev pub target_method_of : ℕ → ℕ → TargetMethod
target_method_of n i = cond (eqb n 0) (target.Segment i) (cond (eqb n 1) (target.Group i) (target.External i))

-- the index behind a target's method
abbrev pub target_method_index : TargetMethod → ℕ
target_method_index (target.Segment i) = i
target_method_index (target.Group i) = i
target_method_index (target.External i) = i

-- the frame's method of this number, with the index behind it
abbrev pub frame_method_of : ℕ → Option ℕ → FrameMethod
frame_method_of n (Some i) = frame.By (target_method_of n i)
frame_method_of n None = cond (eqb n 4) frame.Location frame.Target

-- the index behind a frame's method
abbrev pub frame_method_index : FrameMethod → Option ℕ
frame_method_index (frame.By m) = Some (target_method_index m)
frame_method_index frame.Location = None
frame_method_index frame.Target = None

-- ---- the fix data byte

-- no frame method 3, 6 or 7, and no target method 3
abbrev pub IsFixData : ℕ → Type 0
IsFixData b = (b / 16 ≢ 3) × (b / 16 ≢ 6) × (b / 16 ≢ 7) × (b % 16 ≢ 3) × (b % 16 ≢ 7)

-- the frame that a fix data byte says
abbrev pub frame_datum_of : ℕ → Option ℕ → Datum FrameMethod
frame_datum_of b x = cond (eqb (b / 128) 1) (datum.Thread (thread_of (b / 16 % 4)))
    (datum.By (frame_method_of (b / 16 % 8) x))

-- the index behind a frame
abbrev pub frame_datum_index : Datum FrameMethod → Option ℕ
frame_datum_index (datum.Thread n) = None
frame_datum_index (datum.By m) = frame_method_index m

-- the target that a fix data byte says
abbrev pub target_datum_of : ℕ → Option ℕ → Datum TargetMethod
target_datum_of b (Some i) = datum.By (target_method_of (b % 4) i)
target_datum_of b None = datum.Thread (thread_of (b % 4))

-- the index behind a target
abbrev pub target_datum_index : Datum TargetMethod → Option ℕ
target_datum_index (datum.Thread n) = None
target_datum_index (datum.By m) = Some (target_method_index m)

pub frame_to : (b : ℕ) (x : Option ℕ) (text : List ℕ) → b < 256 → IsFixData b → WhenText (b / 64 % 4 ≡ 0) Index x text
    → FrameBits (frame_datum_of b x) b × FrameText (frame_datum_of b x) text
frame_to b x text lt h l = grind (arith, eqb-true, eqb-false, h, l)

pub target_to : (b : ℕ) (x : Option ℕ) (text : List ℕ) → IsFixData b → WhenText (b / 8 % 2 ≡ 0) Index x text
    → TargetBits (target_datum_of b x) b × TargetText (target_datum_of b x) text
target_to b x text h l = grind (arith, eqb-true, eqb-false, h, l)

displacement_to : (x : Option ℕ) (b : ℕ) (text : List ℕ) → WhenText (b / 4 % 2 ≡ 0) Word x text
    → (bits 2 2 b ≡ absent x) × optional Word x text
displacement_to x b text l = grind (arith, l)

pub frame_from : (f : Datum FrameMethod) (b : ℕ) (text : List ℕ) → b < 256 → FrameBits f b → FrameText f text
    → WhenText (b / 64 % 4 ≡ 0) Index (frame_datum_index f) text
frame_from f b text lt h l = grind (arith, h, l)

pub target_from : (t : Datum TargetMethod) (b : ℕ) (text : List ℕ) → TargetBits t b → TargetText t text
    → WhenText (b / 8 % 2 ≡ 0) Index (target_datum_index t) text
target_from t b text h l = grind (arith, h, l)

displacement_from : (x : Option ℕ) (b : ℕ) (text : List ℕ) → bits 2 2 b ≡ absent x → optional Word x text
    → WhenText (b / 4 % 2 ≡ 0) Word x text
displacement_from x b text h l = grind (arith, h, l)

pub frame_in : (f : Datum FrameMethod) (b : ℕ) → b < 256 → FrameBits f b → (b / 16 ≢ 3) × (b / 16 ≢ 6) × (b / 16 ≢ 7)
    × (frame_datum_of b (frame_datum_index f) ≡ f)
frame_in f b lt h = grind (arith, h)

pub target_in : (t : Datum TargetMethod) (b : ℕ) → TargetBits t b → (b % 16 ≢ 3) × (b % 16 ≢ 7)
    × (target_datum_of b (target_datum_index t) ≡ t)
target_in t b h = grind (arith, h)

-- the canonical byte has the bits

frame_bits : (f : Datum FrameMethod) (x : ℕ) → x < 16 → FrameBits f (canon.frame_bits f + x)
    × (canon.frame_bits f < 241)
    × (canon.frame_bits f % 16 ≡ 0)
frame_bits f x lt = grind arith

target_bits : (t : Datum TargetMethod) (p q : ℕ) → p < 2 → TargetBits t (16 * q + 4 * p + canon.target_bits t)
    × (canon.target_bits t < 12) × (canon.target_bits t % 8 < 4)
target_bits t p q lt = grind arith

pub frame_same : (f : Datum FrameMethod) → when_canonical canon.index (frame_datum_index f) ≡ canon.frame_text f
frame_same f = grind arith

pub target_same : (t : Datum TargetMethod) → when_canonical canon.index (target_datum_index t) ≡ canon.target_text t
target_same t = grind arith

displacement_same : (x : Option ℕ) → when_canonical canon.word x ≡ canon.displacement_text x
displacement_same x = grind arith

pub fits : (r : Reference) → (canon.fix_data r < 256) × FixData r (canon.fix_data r)
fits r =
    let p : absent r.displacement < 2 = grind arith in
    let t = target_bits r.target (absent r.displacement) (canon.frame_bits r.frame / 16) p in
    let f = frame_bits r.frame (4 * absent r.displacement + canon.target_bits r.target) (omega (arith, p, t.1)) in
    let same : 16 * (canon.frame_bits r.frame / 16) + 4 * absent r.displacement + canon.target_bits r.target ≡
    canon.fix_data r = omega (arith, f.2) in
    let sum : canon.frame_bits r.frame + (4 * absent r.displacement + canon.target_bits r.target) ≡ canon.fix_data r =
    omega arith in (
      omega (arith, p, t.1, f.1),
      (
        subst (FrameBits r.frame) sum f.0,
        subst (TargetBits r.target) same t.0,
        omega (arith, p, t.1, t.2, f.2),
      ),
    )

-- ---- references

-- what stands behind a fix data byte
abbrev pub Behind : ℕ → Format (Option ℕ × (Option ℕ × Option ℕ)) (Option ℕ × (Option ℕ × Option ℕ))
Behind b = both (when (bits_at 64 4 b ≡ 0) index)
    (both (when (bits_at 8 2 b ≡ 0) index) (when (bits_at 4 2 b ≡ 0) word))

abbrev Tail : Reference → List ℕ → Type 0
Tail r = Joined (FrameText r.frame) (Joined (TargetText r.target) (optional Word r.displacement))

-- the reference that a fix data byte and what stands behind it say
abbrev pub reference_of : ℕ → Option ℕ × (Option ℕ × Option ℕ) → Reference
reference_of b x = record { frame = frame_datum_of b x.0; target = target_datum_of b x.1.0; displacement = x.1.1 }

-- what stands behind the fix data byte of a reference
abbrev pub reference_tail : Reference → Option ℕ × (Option ℕ × Option ℕ)
reference_tail r = (frame_datum_index r.frame, (target_datum_index r.target, r.displacement))

pub ByFixData : ByHead IsFixData Behind FixData Tail ReferenceText canon.reference reference_of canon.fix_data
    reference_tail
ByFixData = record {
  to = λ b x text lt h j.
      let f = frame_to b x.0 j.front lt h j.first in
      let t = target_to b x.1.0 j.second.front h j.second.first in
      let d = displacement_to x.1.1 b j.second.rest j.second.second in
      ((f.0, t.0, d.0), joined j f.1 (joined j.second t.1 d.1));
  begins = λ r b lt h.
      let f = frame_in r.frame b lt h.0 in
      let t = target_in r.target b h.1 in
      (f.0, f.1, f.2, t.0, t.1);
  back = λ r b lt h. rw ((frame_in r.frame b lt h.0).3, (target_in r.target b h.1).2) refl;
  from = λ r b text lt h j. joined j (frame_from r.frame b j.front lt h.0 j.first)
      (joined j.second (target_from r.target b j.second.front h.1 j.second.first)
      (displacement_from r.displacement b j.second.rest h.2 j.second.second));
  valid = λ r h. fits r;
  best = λ r b h. fits r;
  same = λ r h. rw (frame_same r.frame, target_same r.target, displacement_same r.displacement) refl;
  view = λ b x. rw (
    map_same (λ x. x) (λ x. refl) x.0,
    map_same (λ x. x) (λ x. refl) x.1.0,
    map_same (λ x. x) (λ x. refl) x.1.1,
  ) refl;
  texts = λ r text. ((λ l. l), (λ l. l));
}

-- references
abbrev pub reference : Format Reference Reference
reference = free (λ x. x) ReferenceText canon.reference

pub reference_made : IsMade (behind (fact_byte IsFixData) Behind (λ rest. Unit {0})) reference
reference_made = by_head ByFixData

pub reference_lawful : Lawful reference
reference_lawful = by_head_lawful ByFixData
    (λ b. both_lawful _ (when_lawful (bits_at 64 4 b ≡ 0) index index_lawful (λ r. tt)) (λ r. tt) _
    (both_lawful _ (when_lawful (bits_at 8 2 b ≡ 0) index index_lawful (λ r. tt)) (λ r. tt) _
    (when_lawful (bits_at 4 2 b ≡ 0) word word_lawful (λ r. tt)))) (λ b r. tt)

pub reference_blank : Completes reference []
reference_blank = by_head_blank ByFixData (grind arith)
    (λ b. both_blank (when (bits_at 64 4 b ≡ 0) index)
    (both (when (bits_at 8 2 b ≡ 0) index) (when (bits_at 4 2 b ≡ 0) word))
    (when_blank (bits_at 64 4 b) 0 index index_blank)
    (both_blank (when (bits_at 8 2 b ≡ 0) index) (when (bits_at 4 2 b ≡ 0) word)
    (when_blank (bits_at 8 2 b) 0 index index_blank) (when_blank (bits_at 4 2 b) 0 word word_blank)))
