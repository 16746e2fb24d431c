-- What a field is: its texts, the canonical one among them, what may stand behind it; and what reading and writing it
-- answer.
use Rattle.std.specs.Prelude.{◌≡◌, ℕ, ◌+◌, ◌<◌, ◌≤◌, ◌⊎◌, List, [], ◌∷◌, ◌++◌, length, replicate, Result, Ok, Err}
use Rattle.omf_codec.specs.Language.{IsBytes, ◌⋆◌ as Joined}
use Rattle.omf_codec.specs.declared.codec.ReadError.{ReadError}
use Rattle.omf_codec.specs.declared.codec.ReadError.TheVariants as errors
use Rattle.omf_codec.specs.declared.output.Unwritten.{Unwritten}

-- how values of V are spelled, which code holds as I
pub record Format (I V : Type 0) : Type 1 where
  pub view : I → V
  pub Text : V → List ℕ → Type 0
  pub canonical : V → List ℕ
  -- what may stand behind a text: anything, or nothing
  pub Ends : List ℕ → Type 0
  -- the number that a field behind it may depend on
  pub number : V → ℕ

-- anything may stand behind it
abbrev pub IsFree : {I V : Type 0} → Format I V → Type 0
IsFree F = (rest : List ℕ) → F.Ends rest

-- a text of the first set, and behind it one of the second
pub join : {L M : List ℕ → Type 0} {text : List ℕ} (front rest : List ℕ) → text ≡ front ++ rest → L front → M rest
    → Joined L M text
join front rest parts first second = record {
  front = front;
  rest = rest;
  parts = parts;
  first = first;
  second = second;
}

-- some zeros behind these bytes make a text
abbrev pub Completes : {I V : Type 0} → Format I V → List ℕ → Type 0
Completes {I} {V} F front = (zeros : ℕ) × (x : V) × F.Text x (front ++ replicate zeros 0)

-- no text is empty
abbrev pub IsFilled : {I V : Type 0} → Format I V → Type 0
IsFilled {I} {V} F = (x : V) (text : List ℕ) → F.Text x text → 0 < length text

-- Bytes begin with at most one text, of one value. The canonical text of what has one is one, and none is shorter.
-- Each text is a list of bytes.
pub record Lawful {I V : Type 0} (F : Format I V) : Type 0 where
  pub one : (x y : V) (s t r q : List ℕ) → F.Text x s → F.Text y t → F.Ends r → F.Ends q → s ++ r ≡ t ++ q → (x ≡ y)
      × (s ≡ t)
  pub shortest : (x : V) (text : List ℕ) → F.Text x text → F.Text x (F.canonical x)
      × (length (F.canonical x) ≤ length text)
  pub bytes : (x : V) (text : List ℕ) → F.Text x text → IsBytes text

-- ---- reading

-- no text of any value begins these bytes
abbrev pub NoneBegins : {I V : Type 0} → Format I V → List ℕ → Type 0
NoneBegins {I} {V} F bytes = (y : V) (text rest : List ℕ) → F.Text y text → F.Ends rest → bytes ≡ text ++ rest → ⊥

-- a text stands in front of the rest
pub record Found {I V : Type 0} (F : Format I V) (bytes : List ℕ) (x : V) (rest : List ℕ) : Type 0 where
  pub front : List ℕ
  pub parts : bytes ≡ front ++ rest
  pub spelled : F.Text x front
  pub ends : F.Ends rest

-- No text begins the bytes. Zeros complete what stands before the bad ones, if anything does, and no text goes on with
-- the first of those.
pub record Refused {I V : Type 0} (F : Format I V) (bytes bad : List ℕ) : Type 0 where
  pub front : List ℕ
  pub parts : bytes ≡ front ++ bad
  pub none : NoneBegins F bytes
  pub completes : (front ≡ []) ⊎ Completes F front
  pub stops : (b : ℕ) (after more : List ℕ) → bad ≡ b ∷ after → NoneBegins F (front ++ b ∷ more)

-- where reading fails: for want of memory, or on bytes that none of its texts begins
abbrev pub Fails : {I V : Type 0} → Format I V → List ℕ → ReadError → Type 0
Fails F bytes errors.Memory = Unit {0}
Fails F bytes (errors.Refused bad) = Refused F bytes bad.now

-- a text stands in front and the value was read, or reading failed
abbrev pub Reads : {I V X : Type 0} → Format I V → (X → I × List ℕ) → List ℕ → Result X ReadError → Type 0
Reads F of bytes (Ok x) = Found F bytes (F.view (of x).0) (of x).1
Reads F of bytes (Err e) = Fails F bytes e

-- ---- writing

-- what an output does with bytes: it takes them, or refuses so many
pub record IsOutput {S : Type 0} (Takes : S → List ℕ → S → Type 0) (Refuses : S → ℕ → S → Type 0) : Type 0 where
  pub none : (a : S) → Takes a [] a
  pub more : (a b c : S) (s t : List ℕ) → Takes a s b → Takes b t c → Takes a (s ++ t) c
  pub then_fails : (a b c : S) (s : List ℕ) (n : ℕ) → Takes a s b → Refuses b n c → Refuses a (length s + n) c
  pub longer : (a b : S) (m n : ℕ) → m ≤ n → Refuses a m b → Refuses a n b

-- whether bytes were written
abbrev pub Written : Type 0
Written = Result (Unit {0}) Unwritten

-- The canonical text was taken; or none could be, whichever text it were.
abbrev pub Writes : {S : Type 0} → (S → List ℕ → S → Type 0) → (S → ℕ → S → Type 0) → (List ℕ → Type 0) → List ℕ → S → S
    → Written → Type 0
Writes Takes Refuses L canon old new (Ok u) = L canon × Takes old canon new
Writes Takes Refuses L canon old new (Err e) = (text : List ℕ) → L text → Refuses old (length text) new

-- the same of an item
abbrev pub WritesItem : {I V S : Type 0} → (S → List ℕ → S → Type 0) → (S → ℕ → S → Type 0) → Format I V → I → S → S
    → Written → Type 0
WritesItem Takes Refuses F item = Writes Takes Refuses (F.Text (F.view item)) (F.canonical (F.view item))

-- ---- values made of parts

-- a value whose texts are those of some parts, of which these have the canonical text
pub record Splits {I P J A : Type 0} (F : Format I P) (M : Format J A) (x : P) (y : A) : Type 0 where
  pub to : (text : List ℕ) → F.Text x text → M.Text y text × (F.canonical x ≡ M.canonical y)
  pub best : (text : List ℕ) → M.Text y text → (short : List ℕ) × F.Text x short × (length short ≤ length text)

-- what the parts spell, the value does
abbrev pub Makes : {I P J A : Type 0} → Format I P → Format J A → I → J → Type 0
Makes F M parts value = (text : List ℕ) → F.Text (F.view parts) text → M.Text (M.view value) text

-- values of a format that are made of parts of another
pub record IsMade {I P J A : Type 0} (F : Format I P) (M : Format J A) : Type 0 where
  pub made : P → A
  pub split : A → P
  pub to : (x : P) (text : List ℕ) → F.Text x text → M.Text (made x) text
  pub from : (y : A) (text : List ℕ) → M.Text y text → (x : P) × (made x ≡ y) × F.Text x text
  pub splits : (y : A) → Splits F M (split y) y
  pub free : IsFree M

-- a format behind which anything may stand
abbrev pub free : {I V : Type 0} → (I → V) → (V → List ℕ → Type 0) → (V → List ℕ) → Format I V
free view L c = record { view = view; Text = L; canonical = c; Ends = λ rest. Unit {0}; number = λ x. 0 }

-- the same of a number
abbrev pub numbered : (ℕ → List ℕ → Type 0) → (ℕ → List ℕ) → Format ℕ ℕ
numbered L c = record { view = λ x. x; Text = L; canonical = c; Ends = λ rest. Unit {0}; number = λ x. x }
