-- Indexes and names that the bytes end in.
use Rattle.std.proofs.Common.{◌≡◌, ℕ, zero, suc, ◌+◌, ◌*◌, ◌-◌, ◌/◌, ◌%◌, ◌<◌, ◌⊎◌, inl, inr, Bool, true, false, ltb}
use Rattle.std.proofs.Common.{List, [], ◌∷◌, ◌++◌, length, take, drop, get_or, refl, sym, ap, subst, ◌∙◌, arith}
use Rattle.std.proofs.Common.{append-nil}
use Rattle.std.specs.Prelude.{replicate, ◌≤◌, Ok, Err, OnOk, OnErr}
use Rattle.std.proofs.lemmas.Bool.{ltb-true, ltb-false}
use Rattle.std.proofs.lemmas.List.{take-append-drop, length-take-le, take_all, drop_all, length-drop, take_at}
use Rattle.std.proofs.lemmas.List.{length-append, length-replicate}
use Rattle.omf_codec.specs.Language.{IsBytes, Bytes, Index, Name, Word}
use Rattle.omf_codec.specs.inside.Format.{Format, NoneBegins, Completes, Refused, IsOutput, Written, Writes}
use Rattle.omf_codec.specs.inside.FormatLaws.{IsBytes-append}
use Rattle.omf_codec.specs.inside.PrimitiveLaws.{index, name, word}

pub IsBytes-from : (bytes : List ℕ) → ((i : ℕ) → get_or bytes i 0 < 256) → IsBytes bytes
IsBytes-from [] h = tt
IsBytes-from (b ∷ bytes) h = (h 0, IsBytes-from bytes (λ i. h (suc i)))

IsBytes-front : (a b : List ℕ) → IsBytes (a ++ b) → IsBytes a
IsBytes-front [] b f = tt
IsBytes-front (x ∷ a) b f = (f.0, IsBytes-front a b f.1)

IsBytes-zeros : (n : ℕ) → IsBytes (replicate n 0)
IsBytes-zeros zero = tt
IsBytes-zeros (suc n) = (omega arith, IsBytes-zeros n)

none_of : {I A : Type 0} (F : Format I A) (bytes : List ℕ) → ((x : A) (n : ℕ) → F.Text x (take n bytes) → ⊥)
    → NoneBegins F bytes
none_of F bytes h y text rest l u e =
    h y (length text) (subst (F.Text y) (sym (ap (take (length text)) e ∙ take_at text rest (length text) refl)) l)

-- the bytes end too early
pub missing : {I A : Type 0} (F : Format I A) (bytes : List ℕ) → ((x : A) (n : ℕ) → F.Text x (take n bytes) → ⊥)
    → (bytes ≡ []) ⊎ Completes F bytes
    → Refused F bytes (take (length bytes - length bytes) (drop (length bytes) bytes))
missing F bytes h c =
    rw (take_all (length bytes - length bytes) (drop (length bytes) bytes)
    (omega (arith, length-drop (length bytes) bytes)) ∙ drop_all (length bytes) bytes (omega arith)) (record {
      front = bytes;
      parts = sym (append-nil bytes);
      none = none_of F bytes h;
      completes = c;
      stops = λ b after more is. absurd cc;
    })

pub index_goes_on : (bytes : List ℕ) → IsBytes bytes → ((x n : ℕ) → Index x (take n bytes) → ⊥)
    → (bytes ≡ []) ⊎ Completes index bytes
index_goes_on [] fits none = inl refl
index_goes_on (a ∷ rest) fits none = go rest fits none (ltb a 128) refl
  where
    go : (rest : List ℕ) → IsBytes (a ∷ rest) → ((x n : ℕ) → Index x (take n (a ∷ rest)) → ⊥) → (t : Bool)
        → ltb a 128 ≡ t → (a ∷ rest ≡ []) ⊎ Completes index (a ∷ rest)
    go rest fits none true e = absurd (none a 1 (inl (omega (arith, ltb-true a 128 e), refl)))
    go [] fits none false e =
        let le = ltb-false a 128 e in
        let x = 256 * (a - 128) in
        let high : a ≡ 128 + x / 256 = omega (arith, fits.0) in
        let low : 0 ≡ x % 256 = omega (arith, fits.0) in
        inr (1, x, inr (omega (arith, fits.0), ap (λ n. n ∷ 0 ∷ []) high ∙ ap (λ n. (128 + x / 256) ∷ n ∷ []) low))
    go (b ∷ rest) fits none false e =
        let le = ltb-false a 128 e in
        let x = 256 * (a - 128) + b in
        let high : a ≡ 128 + x / 256 = omega (arith, fits.0, fits.1.0) in
        let low : b ≡ x % 256 = omega (arith, fits.0, fits.1.0) in
        absurd
        (none x 2
        (inr (omega (arith, fits.0, fits.1.0), ap (λ n. n ∷ b ∷ []) high ∙ ap (λ n. (128 + x / 256) ∷ n ∷ []) low)))

pub name_goes_on : (bytes : List ℕ) → IsBytes bytes → ((s : List ℕ) (n : ℕ) → Name s (take n bytes) → ⊥)
    → (bytes ≡ []) ⊎ Completes name bytes
name_goes_on [] fits none = inl refl
name_goes_on (n ∷ rest) fits none = go (ltb (length rest) n) refl
  where
    go : (t : Bool) → ltb (length rest) n ≡ t → (n ∷ rest ≡ []) ⊎ Completes name (n ∷ rest)
    go true e =
        let short = ltb-true (length rest) n e in
        let k = n - length rest in
        let s : List ℕ = rest ++ replicate k 0 in
        let len : length s ≡ n = omega (arith, length-append rest (replicate k 0), length-replicate {A = ℕ} k 0) in
        inr (
          k,
          s,
          (
            omega (arith, len, fits.0),
            IsBytes-append rest (replicate k 0) fits.1 (IsBytes-zeros k),
            ap (λ m. m ∷ s)
                (sym len),
          ),
        )
    go false e =
        let s = take n rest in
        let len : length s ≡ n = length-take-le n rest (ltb-false (length rest) n e) in
        let parts : rest ≡ s ++ drop n rest = sym (take-append-drop n rest) in
        absurd
        (none s (suc n) (
          omega (arith, len, fits.0),
          IsBytes-front s (drop n rest) (subst IsBytes parts fits.1),
          ap (λ m. m ∷ s) (sym len),
        ))

pub word_goes_on : (bytes : List ℕ) → IsBytes bytes → length bytes < 2 → (bytes ≡ []) ⊎ Completes word bytes
word_goes_on [] fits lt = inl refl
word_goes_on (b ∷ []) fits lt =
    let low : b ≡ b % 256 = omega (arith, fits.0) in
    let high : 0 ≡ b / 256 = omega (arith, fits.0) in
    inr (1, b, (omega (arith, fits.0), ap (λ n. n ∷ 0 ∷ []) low ∙ ap (λ n. b % 256 ∷ n ∷ []) high))
word_goes_on (b ∷ a ∷ rest) fits lt = absurd (omega (arith, lt))

pub word_none : (bytes : List ℕ) → length bytes < 2 → (x n : ℕ) → Word x (take n bytes) → ⊥
word_none bytes lt x n l =
    omega (arith, ap length l.1, ap length (take-append-drop n bytes), length-append (take n bytes) (drop n bytes))

-- ---- writing bytes

module _ {S : Type 0} (Takes : S → List ℕ → S → Type 0) (Refuses : S → ℕ → S → Type 0) (s : List ℕ)
    (fits : IsBytes s) where
  pub bytes_written : (old new : S) (r : Written) → OnOk r (Takes old s new) → OnErr r (Refuses old (length s) new)
      → Writes Takes Refuses (Bytes s) s old new r
  bytes_written old new (Ok u) ok err = ((fits, refl), ok)
  bytes_written old new (Err e) ok err = λ text l. rw l.1 err

  pub name_written : IsOutput Takes Refuses → length s ≤ 255 → (old mid new : S) (r : Written)
      → Takes old (length s ∷ []) mid → Writes Takes Refuses (Bytes s) s mid new r
      → Writes Takes Refuses (Name s) (length s ∷ s) old new r
  name_written output le old mid new (Ok u) t w = ((le, fits, refl), output.more old mid new (length s ∷ []) s t w.1)
  name_written output le old mid new (Err e) t w =
      λ text l.
      output.longer old new (1 + length s) (length text) (omega (arith, ap length l.2))
      (output.then_fails old mid new (length s ∷ []) (length s) t (w s (fits, refl)))
