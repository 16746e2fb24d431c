-- Sets of byte strings: how the fields of a body are spelled. `Index` and `Name` have every spelling of an index and
-- of a name.
use Rattle.std.specs.Prelude.{Bool, true, false}
use Rattle.std.specs.Prelude.{◌≡◌, ℕ, zero, suc, ◌/◌, ◌%◌, ◌^◌, ◌<◌, List, [], ◌∷◌, ◌++◌, Option, Some, None}
pub use Rattle.omf_frame.specs.Primitives.{IsBytes, Index, Name, word}

-- a text of the first set, and behind it one of the second
infixr 30 ◌⋆◌
pub record ◌⋆◌ (L M : List ℕ → Type 0) (text : List ℕ) : Type 0 where
  pub front : List ℕ
  pub rest : List ℕ
  pub parts : text ≡ front ++ rest
  pub first : L front
  pub second : M rest

-- no byte
abbrev pub Empty : List ℕ → Type 0
Empty text = text ≡ []

-- those texts, where the fact holds
abbrev pub Where : Type 0 → (List ℕ → Type 0) → List ℕ → Type 0
Where P L text = P × L text

-- a text for each member, one behind the other, to the end
abbrev pub each : {A : Type 0} → (A → List ℕ → Type 0) → List A → List ℕ → Type 0
each L [] text = text ≡ []
each L (x ∷ xs) text = (L x ⋆ each L xs) text

-- a text where there is a value
abbrev pub optional : {A : Type 0} → (A → List ℕ → Type 0) → Option A → List ℕ → Type 0
optional L None text = text ≡ []
optional L (Some x) text = L x text

-- one byte of which the fact holds
abbrev pub One : (ℕ → Type 0) → List ℕ → Type 0
One P text = (b : ℕ) × (b < 256) × P b × (text ≡ b ∷ [])

-- one byte, of this value
abbrev pub Byte : ℕ → List ℕ → Type 0
Byte b text = (b < 256) × (text ≡ b ∷ [])

-- two bytes, the low one first
abbrev pub Word : ℕ → List ℕ → Type 0
Word n text = (n < 65536) × (text ≡ word n)

-- a number below 256 to the width, in so many bytes, the low one first
abbrev pub little : (width : ℕ) → ℕ → List ℕ
little zero n = []
little (suc zero) n = n ∷ []
little (suc (suc width)) n = n % 256 ∷ little (suc width) (n / 256)

-- so many bytes, the low one first: two are a word
abbrev pub Little : (width : ℕ) → ℕ → List ℕ → Type 0
Little width n text = (n < 256 ^ width) × (text ≡ little width n)

-- how many bytes a number has, in records of 32 bits and in others
abbrev pub width_of : Bool → ℕ
width_of true = 4
width_of false = 2

-- these bytes
abbrev pub Bytes : List ℕ → List ℕ → Type 0
Bytes s text = IsBytes s × (text ≡ s)
