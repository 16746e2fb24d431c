-- Where the fault of a body stands.
use Rattle.std.proofs.Common.{◌≡◌, ℕ, ◌<◌, ◌⊎◌, inl, inr, List, arith}
use Rattle.std.proofs.lemmas.Bool.{cases_lt}
use Rattle.omf_codec.specs.Faults.{TextFault}
use Rattle.omf_codec.specs.inside.Format.{Format}
use Rattle.omf_wide.specs.Answer.{Stands}
use Rattle.omf_wide.specs.Body.{BodyOf, NarrowBodyOf}
use Rattle.omf_wide.specs.declared.fault.WideFault.{WideFault}
use Rattle.omf_wide.specs.declared.fault.WideFault.TheVariants.{Memory, OtherType, Body, Above16Bits}
use Rattle.omf_wide.specs.inside.Kinds.{IsBody, IsNarrowBody, Tells}

-- what no value of one kind spells, none of the other does
carried : {V W : Type 0} (L : V → List ℕ → Type 0) (M : W → List ℕ → Type 0)
    → ((x : V) (text : List ℕ) → L x text → (y : W) × M y text)
    → ((y : W) (text : List ℕ) → M y text → (x : V) × L x text) → (bytes : List ℕ) (place : ℕ)
    → TextFault L bytes place → TextFault M bytes place
carried L M to from bytes place f = record {
  none = λ y m. let (x, l) = from y bytes m in f.none x l;
  within = f.within;
  front = let (zeros, x, l) = f.front in let (y, m) = to x _ l in (zeros, y, m);
  longest = λ n zeros lt le y m. let (x, l) = from y _ m in f.longest n zeros lt le x l;
}

-- a text has one place at which it is wrong
one_place : {V : Type 0} (L : V → List ℕ → Type 0) (bytes : List ℕ) (p q : ℕ) → TextFault L bytes p
    → TextFault L bytes q → p ≡ q
one_place L bytes p q f g = elim (cases_lt p q) [
  | inl lt ↦ absurd (let (zeros, x, l) = g.front in f.longest q zeros lt g.within x l)
  | inr le ↦ elim (cases_lt q p) [
    | inl lt ↦ absurd (let (zeros, x, l) = f.front in g.longest p zeros lt f.within x l)
    | inr ge ↦ omega (arith, le, ge)
  ]
]

pub body_fault : {I P : Type 0} (F : Format I P) (kind : ℕ) → IsBody F kind → (bytes : List ℕ) (place : ℕ)
    → TextFault F.Text bytes place → Stands kind bytes (Body place)
body_fault F kind of bytes place f =
    let (zeros, x, l) = f.front in (
      (of.made x, _, of.to x _ l),
      carried F.Text (BodyOf kind) (λ y text m. (of.made y, of.to y text m))
          (λ s text m. let (x, x-is, l) = of.from s text m in (x, l)) bytes place f,
    )

-- a body whose numbers have to have 16 bits is wrong there, and one with any numbers isn't
pub above_fault : {I P J Q : Type 0} (N : Format I P) (W : Format J Q) (kind : ℕ) → IsNarrowBody N kind → IsBody W kind
    → (bytes : List ℕ) (place : ℕ) → TextFault N.Text bytes place → (TextFault W.Text bytes place → ⊥)
    → Stands kind bytes (Above16Bits place)
above_fault N W kind narrow wide bytes place f goes_on = (
  carried N.Text (NarrowBodyOf kind) (λ y text m. (narrow.made y, narrow.to y text m)) narrow.from bytes place f,
  (λ h. goes_on (carried (BodyOf kind) W.Text (λ s text m. let (x, x-is, l) = wide.from s text m in (x, l))
      (λ y text m. (wide.made y, wide.to y text m)) bytes place h)),
)

-- what the fault of a body with any numbers makes of a place
pub body_at : {I P J Q : Type 0} (N : Format I P) (W : Format J Q) (kind : ℕ) → IsNarrowBody N kind → IsBody W kind
    → (bytes : List ℕ) (place : ℕ) → TextFault N.Text bytes place → (fault : WideFault) → Tells W bytes place fault
    → Stands kind bytes fault
body_at N W kind narrow wide bytes place f Memory t = tt
body_at N W kind narrow wide bytes place f OtherType t = absurd t
body_at N W kind narrow wide bytes place f (Body at) t = body_fault W kind wide bytes at (rw t.0 t.1)
body_at N W kind narrow wide bytes place f (Above16Bits at) t = rw t.0 (above_fault N W kind narrow wide bytes place f t.1)

-- the bytes are a text, or are wrong elsewhere
pub text_told : {J Q : Type 0} (W : Format J Q) (bytes : List ℕ) (place : ℕ) (x : Q) → W.Text x bytes
    → TextFault W.Text bytes place → ⊥
text_told W bytes place x l f = f.none x l

pub other_told : {J Q : Type 0} (W : Format J Q) (bytes : List ℕ) (place other : ℕ) → TextFault W.Text bytes other
    → (other ≡ place → ⊥) → TextFault W.Text bytes place → ⊥
other_told W bytes place other g differs f = differs (one_place W.Text bytes other place g f)
