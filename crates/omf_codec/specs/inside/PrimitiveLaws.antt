-- The formats of bytes, indexes and names, and their laws.
use Rattle.std.proofs.Common.{◌≡◌, ℕ, ◌<◌, ◌≤◌, inl, inr, List, [], ◌∷◌, ◌++◌, length, refl, sym, ap, subst, ◌∙◌, arith}
use Rattle.std.proofs.Common.{take, append-nil, Bor}
use Rattle.std.proofs.lemmas.Bool.{ltb-true, ltb-false}
use Rattle.std.proofs.lemmas.List.{take_at}
use Rattle.omf_codec.specs.Language.{IsBytes, Byte, Word, Index, Name, Where, Bytes}
use Rattle.omf_codec.specs.inside.Canonical as canon
use Rattle.omf_codec.specs.inside.Format.{Format, Lawful, Completes, IsFilled, free, numbered}

-- ---- a byte of which a fact holds

-- a byte of which the fact holds
abbrev pub fact_byte : (ℕ → Type 0) → Format ℕ ℕ
fact_byte P = numbered (λ x. Where (P x) (Byte x)) (λ x. x ∷ [])

one_byte : (x y : ℕ) (s t r q : List ℕ) → Byte x s → Byte y t → s ++ r ≡ t ++ q → (x ≡ y) × (s ≡ t)
one_byte x y s t r q l m e = grind (arith, l, m, e)

pub fact_byte_lawful : (P : ℕ → Type 0) → Lawful (fact_byte P)
fact_byte_lawful P = record {
  one = λ x y s t r q l m u v e. one_byte x y s t r q l.1 m.1 e;
  shortest = λ x text l. ((l.0, (l.1.0, refl)), omega (arith, ap length l.1.1));
  bytes = λ x text l. subst IsBytes (sym l.1.1) (l.1.0, tt);
}

-- the byte 00
abbrev pub IsZero : ℕ → Type 0
IsZero b = b ≡ 0

abbrev pub zero_byte : Format ℕ ℕ
zero_byte = fact_byte IsZero

-- a byte
abbrev pub byte : Format ℕ ℕ
byte = free (λ x. x) Byte (λ x. x ∷ [])

pub byte_lawful : Lawful byte
byte_lawful = record {
  one = λ x y s t r q l m u v e. one_byte x y s t r q l m e;
  shortest = λ x text l. ((l.0, refl), omega (arith, ap length l.1));
  bytes = λ x text l. subst IsBytes (sym l.1) (l.0, tt);
}

-- ---- a word

-- a word, the low byte first
abbrev pub word : Format ℕ ℕ
word = numbered Word canon.word

pub word_lawful : Lawful word
word_lawful = record {
  one = λ x y s t r q l m u v e. one x y s t r q l m e;
  shortest = λ x text l. ((l.0, refl), omega (arith, ap length l.1));
  bytes = λ x text l. subst IsBytes (sym l.1) (omega arith, (omega (arith, l.0), tt));
}
  where
    one : (x y : ℕ) (s t r q : List ℕ) → Word x s → Word y t → s ++ r ≡ t ++ q → (x ≡ y) × (s ≡ t)
    one x y s t r q l m e = grind (arith, l, m, e)

-- ---- an index

-- an index
abbrev pub index : Format ℕ ℕ
index = numbered Index canon.index

pub index_lawful : Lawful index
index_lawful = record { one = λ x y s t r q l m u v e. one x y s t r q l m e; shortest = shortest; bytes = bytes }
  where
    one : (x y : ℕ) (s t r q : List ℕ) → Index x s → Index y t → s ++ r ≡ t ++ q → (x ≡ y) × (s ≡ t)
    one x y s t r q l m e = grind (arith, l, m, e)

    shortest : (n : ℕ) (text : List ℕ) → Index n text → Index n (canon.index n) × (length (canon.index n) ≤ length text)
    shortest n text l = (grind (arith, l, ltb-true, ltb-false), grind (arith, l, ltb-true, ltb-false))

    bytes : (n : ℕ) (text : List ℕ) → Index n text → IsBytes text
    bytes n text (inl l) = subst IsBytes (sym l.1) (omega (arith, l.0), tt)
    bytes n text (inr l) = subst IsBytes (sym l.1) (omega (arith, l.0), (omega arith, tt))

pub index_small : (n : ℕ) (text : List ℕ) → Index n text → n < 32768
index_small n text l = grind (arith, l)

-- ---- a name, and the bytes that are left

-- a name behind its length
abbrev pub name : Format (Bor (List ℕ)) (List ℕ)
name = free (λ x. x.now) Name canon.name

pub name_lawful : Lawful name
name_lawful = record {
  one = λ x y s t r q l m u v e. one x y s t r q l m e;
  shortest = λ x text l. ((l.0, l.1, refl), omega (arith, ap length l.2));
  bytes = λ x text l. subst IsBytes (sym l.2) (omega (arith, l.0), l.1);
}
  where
    one : (x y s t r q : List ℕ) → Name x s → Name y t → s ++ r ≡ t ++ q → (x ≡ y) × (s ≡ t)
    one x y s t r q l m e =
        let h : length x ∷ (x ++ r) ≡ length y ∷ (y ++ q) = ap (λ (k : List ℕ). k ++ r) (sym l.2) ∙ e
        ∙ ap (λ (k : List ℕ). k ++ q) m.2 in
        let len : length x ≡ length y = cc in
        let both : x ++ r ≡ y ++ q = cc in
        let v : x ≡ y = sym (take_at x r (length x) refl) ∙ ap (take (length x)) both
        ∙ take_at y q (length x) (sym len) in
        (v, l.2 ∙ ap (λ (n : List ℕ). length n ∷ n) v ∙ sym m.2)

-- the bytes that are left
abbrev pub rest_of : Format (Bor (List ℕ)) (List ℕ)
rest_of = record { view = λ x. x.now; Text = Bytes; canonical = λ x. x; Ends = λ rest. rest ≡ []; number = λ x. 0 }

pub rest_lawful : Lawful rest_of
rest_lawful = record {
  one = λ x y s t r q l m u v e.
      let same : s ≡ t = sym (append-nil s) ∙ ap (λ (k : List ℕ). s ++ k) (sym u) ∙ e ∙ ap (λ (k : List ℕ). t ++ k) v
      ∙ append-nil t in
      (sym l.1 ∙ same ∙ m.1, same);
  shortest = λ x text l. ((l.0, refl), omega (arith, ap length l.1));
  bytes = λ x text l. subst IsBytes (sym l.1) l.0;
}

-- ---- zeros, and texts that aren't empty

pub byte_blank : Completes byte []
byte_blank = (1, 0, (omega arith, refl))

pub word_blank : Completes word []
word_blank = (2, 0, (omega arith, refl))

pub fact_byte_blank : (P : ℕ → Type 0) → P 0 → Completes (fact_byte P) []
fact_byte_blank P p = (1, 0, (p, (omega arith, refl)))

pub fact_byte_filled : (P : ℕ → Type 0) → IsFilled (fact_byte P)
fact_byte_filled P x text l = omega (arith, ap length l.1.1)

pub word_filled : IsFilled word
word_filled x text l = omega (arith, ap length l.1)

pub index_blank : Completes index []
index_blank = (1, 0, inl (omega arith, refl))

pub index_filled : IsFilled index
index_filled x text (inl l) = omega (arith, ap length l.1)
index_filled x text (inr l) = omega (arith, ap length l.1)

pub name_blank : Completes name []
name_blank = (1, [], (omega arith, tt, refl))

pub name_filled : IsFilled name
name_filled s text n = omega (arith, ap length n.2)

pub rest_blank : Completes rest_of []
rest_blank = (0, [], (tt, refl))
