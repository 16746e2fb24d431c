-- What a MODEND is made of: its attribute byte, and a reference where that says so.
use Rattle.std.proofs.Common.{◌≡◌, ℕ, ◌+◌, ◌*◌, ◌/◌, ◌%◌, ◌<◌, Bool, eqb, List, [], ◌∷◌, ◌++◌, Option, Some}
use Rattle.std.proofs.Common.{None, refl, sym, ap, ◌∙◌, append-nil, arith}
use Rattle.std.proofs.lemmas.Bool.{eqb-true, eqb-false}
use Rattle.omf_record.specs.Language.{◌⋆◌ as Joined, One}
use Rattle.omf_record.specs.Body.{bits}
use Rattle.omf_record.specs.Numbers.{bit}
use Rattle.omf_codec.specs.inside.Format.{join, Format, Lawful, IsMade, free}
use Rattle.omf_codec.specs.inside.FormatLaws.{behind, when, when_lawful, bits_at, map_same}
use Rattle.omf_codec.specs.inside.PrimitiveLaws.{fact_byte}
use Rattle.omf_codec.specs.inside.Heads.{ByHead, by_head, by_head_lawful}

-- with a start the low bit is set
abbrev pub IsAttribute : ℕ → Type 0
IsAttribute b = b / 64 % 2 ≡ 1 → b % 2 ≡ 1

pub attribute_zero : IsAttribute 0
attribute_zero = λ e. omega (arith, e)

-- the attribute byte
abbrev pub end_byte : {R : Type 0} → Bool × Option R → ℕ
end_byte (main, None) = 128 * bit main
end_byte (main, Some r) = 128 * bit main + 65

-- the end of a module that its attribute byte and its start say
abbrev pub end_of : {R : Type 0} → ℕ → Option R → Bool × Option R
end_of b x = (eqb (b / 128) 1, x)

-- references that have these texts, and the canonical one
module _ {R : Type 0} (ReferenceText : R → List ℕ → Type 0) (canonical : R → List ℕ) where
  abbrev reference : Format R R
  reference = free (λ x. x) ReferenceText canonical

  -- what stands behind the attribute byte
  abbrev pub Behind : ℕ → Format (Option R) (Option R)
  Behind b = when (bits_at 64 2 b ≡ 1) reference

  abbrev Bits : Bool × Option R → ℕ → Type 0
  Bits (main, None) b = bits 7 6 b ≡ 2 * bit main
  Bits (main, Some r) b = (bits 7 6 b ≡ 2 * bit main + 1) × (bits 0 0 b ≡ 1)

  abbrev Tail : Bool × Option R → List ℕ → Type 0
  Tail (main, None) text = text ≡ []
  Tail (main, Some r) text = ReferenceText r text

  -- the texts of a MODEND
  abbrev pub EndText : Bool × Option R → List ℕ → Type 0
  EndText (main, None) = One (λ b. bits 7 6 b ≡ 2 * bit main)
  EndText (main, Some start) = Joined (One (λ b. (bits 7 6 b ≡ 2 * bit main + 1) × (bits 0 0 b ≡ 1)))
      (ReferenceText start)

  -- the canonical body
  abbrev pub end_text : Bool × Option R → List ℕ
  end_text (main, None) = 128 * bit main ∷ []
  end_text (main, Some start) = (128 * bit main + 65) ∷ canonical start

  to : (b : ℕ) (x : Option R) (text : List ℕ) → b < 256 → IsAttribute b → (Behind b).Text x text
      → Bits (end_of b x) b × Tail (end_of b x) text
  to b x text lt h l = grind (arith, eqb-true, eqb-false, h, l)

  begins : (y : Bool × Option R) (b : ℕ) → b < 256 → Bits y b → IsAttribute b
  begins y b lt h = grind (arith, h)

  back : (y : Bool × Option R) (b : ℕ) → b < 256 → Bits y b → end_of b y.1 ≡ y
  back y b lt h = grind (arith, h)

  from : (y : Bool × Option R) (b : ℕ) (text : List ℕ) → b < 256 → Bits y b → Tail y text
      → (Behind b).Text y.1 text
  from y b text lt h l = grind (arith, h, l)

  end_bits : (y : Bool × Option R) → (end_byte y < 256) × Bits y (end_byte y)
  end_bits y = grind arith

  same : (y : Bool × Option R) → end_byte y ∷ (Behind (end_byte y)).canonical y.1 ≡ end_text y
  same y = grind arith

  texts : (y : Bool × Option R) (text : List ℕ) → (Joined (One (Bits y)) (Tail y) text → EndText y text)
      × (EndText y text → Joined (One (Bits y)) (Tail y) text)
  texts (main, Some r) text = ((λ l. l), (λ l. l))
  texts (main, None) text = (
    (λ j. let (b, lt, h, is) = j.first in (
      b,
      lt,
      h,
      j.parts ∙ ap (λ (t : List ℕ). j.front ++ t) j.second
          ∙ append-nil j.front ∙ is,
    )),
    (λ l. join text [] (sym (append-nil text)) l refl),
  )

  pub ByAttribute : ByHead IsAttribute Behind Bits Tail EndText end_text end_of end_byte (λ y. y.1)
  ByAttribute = record {
    to = to;
    begins = begins;
    back = back;
    from = from;
    valid = λ y h. end_bits y;
    best = λ y b h. end_bits y;
    same = λ y h. same y;
    view = λ b x. map_same (λ x. x) (λ x. refl) x;
    texts = texts;
  }

  -- the end of a module
  abbrev pub module_end : Format (Bool × Option R) (Bool × Option R)
  module_end = free (λ x. x) EndText end_text

  pub end_made : IsMade (behind (fact_byte IsAttribute) Behind (λ rest. Unit {0})) module_end
  end_made = by_head ByAttribute

  pub end_lawful : Lawful reference → Lawful module_end
  end_lawful law = by_head_lawful ByAttribute (λ b. when_lawful (bits_at 64 2 b ≡ 1) reference law (λ r. tt))
      (λ b r. tt)
