-- Values whose texts are a byte with some bits, and behind it what those bits say: the bits that aren't looked at are
-- free.
use Rattle.std.proofs.Common.{◌≡◌, ℕ, ◌<◌, List, [], ◌∷◌, ◌++◌, length, refl, sym, ap, subst, ◌∙◌, arith}
use Rattle.std.proofs.lemmas.List.{length-append}
use Rattle.omf_codec.specs.Language.{◌⋆◌ as Joined, One}
use Rattle.omf_codec.specs.inside.Format.{join, Format, Completes, IsFree, IsMade, IsFilled, Lawful, Splits, free}
use Rattle.omf_codec.specs.inside.FormatLaws.{behind, behind_lawful, behind_blank, behind_filled, made_lawful}
use Rattle.omf_codec.specs.inside.FormatLaws.{made_blank, made_filled}
use Rattle.omf_codec.specs.inside.PrimitiveLaws.{fact_byte, fact_byte_lawful, fact_byte_blank, fact_byte_filled}

-- other texts at the same place
pub joined : {K L M N : List ℕ → Type 0} {text : List ℕ} (j : Joined K L text) → M j.front → N j.rest → Joined M N text
joined j m n = join j.front j.rest j.parts m n

-- What a byte and the fields behind it make; and the byte that is written, which begins nothing where the value has no
-- text.
pub record ByHead {B A : Type 0} (Begins : ℕ → Type 0) (G : ℕ → Format B B) (Bits : A → ℕ → Type 0) (Tail L : A → List ℕ
    → Type 0) (canon : A → List ℕ) (made : ℕ → B → A) (code : A → ℕ) (rest : A → B) : Type 0 where
  pub to : (b : ℕ) (x : B) (text : List ℕ) → b < 256 → Begins b → (G b).Text x text → Bits (made b x) b
      × Tail (made b x) text
  pub begins : (y : A) (b : ℕ) → b < 256 → Bits y b → Begins b
  pub back : (y : A) (b : ℕ) → b < 256 → Bits y b → made b (rest y) ≡ y
  pub from : (y : A) (b : ℕ) (text : List ℕ) → b < 256 → Bits y b → Tail y text → (G b).Text (rest y) text
  pub valid : (y : A) → Begins (code y) → (code y < 256) × Bits y (code y)
  pub best : (y : A) (b : ℕ) → Bits y b → (code y < 256) × Bits y (code y)
  pub same : (y : A) → Begins (code y) → code y ∷ (G (code y)).canonical (rest y) ≡ canon y
  pub view : (b : ℕ) (x : B) → (G b).view x ≡ x
  pub texts : (y : A) (text : List ℕ) → (Joined (One (Bits y)) (Tail y) text → L y text)
      × (L y text → Joined (One (Bits y)) (Tail y) text)

module _ {B A : Type 0} {Begins : ℕ → Type 0} {G : ℕ → Format B B} {Bits : A → ℕ → Type 0} {Tail L : A → List ℕ
    → Type 0} {canon : A → List ℕ} {made : ℕ → B → A} {code : A → ℕ} {rest : A
    → B} (of : ByHead Begins G Bits Tail L canon made code rest) where
  abbrev Parts : Format (ℕ × B) (ℕ × B)
  Parts = behind (fact_byte Begins) G (λ rest. Unit {0})

  abbrev Value : Format A A
  Value = free (λ y. y) L canon

  to : (x : ℕ × B) (text : List ℕ) → Parts.Text x text → L (made x.0 x.1) text
  to (b, x) text j =
      let m = of.to b x j.rest j.first.1.0 j.first.0 j.second in
      (of.texts (made b x) text).0 (joined j (b, j.first.1.0, m.0, j.first.1.1) m.1)

  spelled : (y : A) (b : ℕ) (text : List ℕ) → b < 256 → Bits y b → Tail y text → Parts.Text (b, rest y) (b ∷ text)
  spelled y b text lt bits t = join (b ∷ []) text refl (of.begins y b lt bits, (lt, refl)) (of.from y b text lt bits t)

  splits : (y : A) → Splits Parts Value (code y, rest y) y
  splits y = record {
    to = λ text j.
        let v = of.valid y j.first.0 in
        (subst (λ z. L z text) (of.back y (code y) v.0 v.1) (to (code y, rest y) text j), of.same y j.first.0);
    best = λ text l.
        let j = (of.texts y text).1 l in
        let (b, lt, bits, is) = j.first in
        let v = of.best y b bits in (
          code y ∷ j.rest,
          spelled y (code y) j.rest v.0 v.1 j.second,
          omega (arith, ap length j.parts, ap length is, length-append j.front j.rest),
        );
  }

  pub by_head_make : (x : ℕ × B) (text : List ℕ) → Parts.Text (Parts.view x) text → L (made x.0 x.1) text
  by_head_make (b, x) text l = to (b, x) text (subst (λ y. Parts.Text (b, y) text) (of.view b x) l)

  pub by_head_splits : (y : A) → Splits Parts Value (Parts.view (code y, rest y)) y
  by_head_splits y = subst (λ x. Splits Parts Value (code y, x) y) (sym (of.view (code y) (rest y))) (splits y)

  pub by_head : IsMade Parts Value
  by_head = record {
    made = λ x. made x.0 x.1;
    split = λ y. (code y, rest y);
    to = to;
    from = λ y text l.
        let j = (of.texts y text).1 l in
        let (b, lt, bits, is) = j.first in (
          (b, rest y),
          of.back y b lt bits,
          subst (Parts.Text (b, rest y))
              (sym (j.parts ∙ ap (λ (t : List ℕ). t ++ j.rest) is)) (spelled y b j.rest lt bits j.second),
        );
    splits = splits;
    free = λ r. tt;
  }

  pub by_head_lawful : ((b : ℕ) → Lawful (G b)) → ((b : ℕ) → IsFree (G b)) → Lawful Value
  by_head_lawful law unended = made_lawful Parts Value by_head
      (behind_lawful (fact_byte Begins) G (λ rest. Unit {0}) (fact_byte_lawful Begins) (λ r. tt) law
      (λ x rest u. unended x rest)) (λ r. tt)

  pub by_head_filled : IsFilled Value
  by_head_filled = made_filled Parts Value by_head
      (behind_filled (fact_byte Begins) G (λ rest. Unit {0}) (fact_byte_filled Begins))

  pub by_head_blank : Begins 0 → ((b : ℕ) → Completes (G b) []) → Completes Value []
  by_head_blank zero blank = made_blank Parts Value by_head
      (behind_blank (fact_byte Begins) G (λ rest. Unit {0}) (fact_byte_blank Begins zero) blank)
