-- What reading one field behind another answers, and reading a value made of parts.
use Rattle.std.proofs.Common.{◌≡◌, ℕ, ◌+◌, List, [], ◌∷◌, ◌++◌, length, inl, inr, ◌⊎◌, refl, sym, ap, subst, ◌∙◌}
use Rattle.std.proofs.Common.{append_assoc, append-nil, arith, Some, None}
use Rattle.std.specs.Prelude.{replicate, Ok, Err}
use Rattle.std.proofs.lemmas.List.{length-append, replicate-append-replicate}
use Rattle.omf_codec.specs.declared.codec.ReadError.{ReadError}
use Rattle.omf_codec.specs.declared.codec.ReadError.TheVariants as errors
use Rattle.omf_codec.specs.inside.Format.{join, Format, IsFree, NoneBegins, Completes, Found, Fails, Lawful, IsMade}
use Rattle.omf_codec.specs.inside.Format.{IsOutput, Writes, Written, WritesItem, Splits}
use Rattle.omf_codec.specs.Language.{◌⋆◌ as Joined}
use Rattle.omf_codec.specs.inside.FormatLaws.{behind, same, when}

-- what fails to be one's text fails to be the other's
module _ {I J A B : Type 0} (F : Format I A) (M : Format J B)
    (none : (bytes : List ℕ) → NoneBegins F bytes → NoneBegins M bytes)
    (completes : (front : List ℕ) → Completes F front → Completes M front) where
  pub carried : (bytes : List ℕ) (e : ReadError) → Fails F bytes e → Fails M bytes e
  carried bytes errors.Memory f = tt
  carried bytes (errors.Refused bad) f = record {
    front = f.front;
    parts = f.parts;
    none = none bytes f.none;
    completes = go f.completes;
    stops = λ b after more is. none (f.front ++ b ∷ more) (f.stops b after more is);
  }
    where
      go : (f.front ≡ []) ⊎ Completes F f.front → (f.front ≡ []) ⊎ Completes M f.front
      go (inl e) = inl e
      go (inr c) = inr (completes f.front c)

module _ {I J A B : Type 0} (F : Format I A) (law : Lawful F) (unended : IsFree F) (G : A → Format J B)
    (Ends : List ℕ → Type 0) where
  abbrev Both : Format (I × J) (A × B)
  Both = behind F G Ends

  pub both_found : (bytes : List ℕ) (x : A) (rest : List ℕ) (y : B) (after : List ℕ) → Found F bytes x rest
      → Found (G x) rest y after → ((G x).Ends after → Ends after) → Found Both bytes (x, y) after
  both_found bytes x rest y after f g ends = record {
    front = f.front ++ g.front;
    parts = f.parts ∙ ap (λ (t : List ℕ). f.front ++ t) g.parts ∙ sym (append_assoc f.front g.front after);
    spelled = join f.front g.front refl f.spelled g.spelled;
    ends = ends g.ends;
  }

  -- a text of the first field, and zeros behind it
  blank_behind : (x : A) (front : List ℕ) (n : ℕ) → F.Text x (front ++ replicate n 0) → Completes (G x) []
      → Completes Both front
  blank_behind x front n l (m, y, k) = (
    n + m,
    (x, y),
    join (front ++ replicate n 0) (replicate m 0)
        (ap (λ (t : List ℕ). front ++ t) (sym (replicate-append-replicate n m 0))
        ∙ sym (append_assoc front (replicate n 0) (replicate m 0))) l k,
  )

  module _ (blank : (x : A) → Completes (G x) []) where
    pub first_err : (bytes : List ℕ) (e : ReadError) → Fails F bytes e → Fails Both bytes e
    first_err = carried F Both none (λ front (n, x, l). blank_behind x front n l (blank x))
      where
        none : (bytes : List ℕ) → NoneBegins F bytes → NoneBegins Both bytes
        none bytes h y text rest j u e =
            h y.0 j.front (j.rest ++ rest) j.first (unended (j.rest ++ rest))
            (e ∙ ap (λ (t : List ℕ). t ++ rest) j.parts ∙ append_assoc j.front j.rest rest)

    pub second_err : ((x : A) (rest : List ℕ) → Ends rest → (G x).Ends rest)
        → (bytes : List ℕ) (x : A) (rest : List ℕ) (e : ReadError) → Found F bytes x rest → Fails (G x) rest e
        → Fails Both bytes e
    second_err ends bytes x rest errors.Memory f g = tt
    second_err ends bytes x rest (errors.Refused bad) f g = record {
      front = f.front ++ g.front;
      parts = f.parts ∙ ap (λ (t : List ℕ). f.front ++ t) g.parts ∙ sym (append_assoc f.front g.front bad.now);
      none = subst (NoneBegins Both) (sym f.parts) (none rest g.none);
      completes = inr (go g.completes);
      stops =
          λ b after more is.
          subst (NoneBegins Both) (sym (append_assoc f.front g.front (b ∷ more)))
          (none (g.front ++ b ∷ more) (g.stops b after more is));
    }
      where
        none : (rest : List ℕ) → NoneBegins (G x) rest → NoneBegins Both (f.front ++ rest)
        none rest h y text more j u e =
            let s =
            same F law unended y.0 x j.front f.front (j.rest ++ more) rest j.first f.spelled
            (sym (e ∙ ap (λ (t : List ℕ). t ++ more) j.parts ∙ append_assoc j.front j.rest more)) in
            h y.1 j.rest more (subst (λ v. (G v).Text y.1 j.rest) s.value j.second) (ends x more u) (sym s.rest)

        go : (g.front ≡ []) ⊎ Completes (G x) g.front → Completes Both (f.front ++ g.front)
        go (inl e) =
            blank_behind x (f.front ++ g.front) 0
            (subst (F.Text x)
            (sym (append-nil (f.front ++ g.front) ∙ ap (λ (t : List ℕ). f.front ++ t) e ∙ append-nil f.front))
            f.spelled) (blank x)
        go (inr (n, y, k)) = (
          n,
          (x, y),
          join f.front (g.front ++ replicate n 0) (append_assoc f.front g.front (replicate n 0)) f.spelled k,
        )

module _ {I A : Type 0} (F : Format I A) (unended : IsFree F) (P : Type 0) (yes : P) where
  pub when_err : (bytes : List ℕ) (e : ReadError) → Fails F bytes e → Fails (when P F) bytes e
  when_err = carried F (when P F) none (λ front (n, x, l). (n, Some x, (yes, l)))
    where
      none : (bytes : List ℕ) → NoneBegins F bytes → NoneBegins (when P F) bytes
      none bytes h (Some x) text rest m u e = h x text rest m.1 (unended rest) e
      none bytes h None text rest m u e = m.0 yes

module _ {I P J A : Type 0} (F : Format I P) (unended : IsFree F) (M : Format J A) (of : IsMade F M) where
  pub made_err : (bytes : List ℕ) (e : ReadError) → Fails F bytes e → Fails M bytes e
  made_err =
      carried F M (λ bytes h y text rest m u e. let (x, x-is, l) = of.from y text m in h x text rest l (unended rest) e)
      (λ front (n, x, l). (n, of.made x, of.to x (front ++ replicate n 0) l))

  pub made_found : (bytes : List ℕ) (x : P) (y : A) (rest : List ℕ) → ((text : List ℕ) → F.Text x text → M.Text y text)
      → Found F bytes x rest → Found M bytes y rest
  made_found bytes x y rest h f =
      record { front = f.front; parts = f.parts; spelled = h f.front f.spelled; ends = of.free rest }

-- ---- writing

module _ {S : Type 0} (Takes : S → List ℕ → S → Type 0) (Refuses : S → ℕ → S → Type 0)
    (output : IsOutput Takes Refuses) where
  pub first_fails : {L M : List ℕ → Type 0} (old new : S) → ((text : List ℕ) → L text → Refuses old (length text) new)
      → (text : List ℕ) → Joined L M text → Refuses old (length text) new
  first_fails old new w text j =
      output.longer old new (length j.front) (length text)
      (omega (arith, ap length j.parts, length-append j.front j.rest)) (w j.front j.first)

  pub second_written : {I A : Type 0} (F : Format I A) (law : Lawful F) (x : A) (M : List ℕ → Type 0) (d : List ℕ)
      (old mid new : S) (r : Written)
      → F.Text x (F.canonical x) × Takes old (F.canonical x) mid → Writes Takes Refuses M d mid new r
      → Writes Takes Refuses (Joined (F.Text x) M) (F.canonical x ++ d) old new r
  second_written F law x M d old mid new (Ok u) f g =
      (join _ _ refl f.0 g.0, output.more old mid new (F.canonical x) d f.1 g.1)
  second_written F law x M d old mid new (Err e) f g = λ text j.
      let a = law.shortest x j.front j.first in
      output.longer old new (length (F.canonical x) + length j.rest) (length text)
      (omega (arith, a.1, ap length j.parts, length-append j.front j.rest))
      (output.then_fails old mid new (F.canonical x) (length j.rest) f.1 (g j.rest j.second))

  pub made_written : {I P J A : Type 0} (F : Format I P) (M : Format J A) (x : I) (y : J) (old new : S) (r : Written)
      → Splits F M (F.view x) (M.view y) → WritesItem Takes Refuses F x old new r
      → WritesItem Takes Refuses M y old new r
  made_written F M x y old new (Ok u) p w = let k = p.to (F.canonical (F.view x)) w.0 in rw (← k.1) (k.0, w.1)
  made_written F M x y old new (Err e) p w =
      λ text l. let (short, k, le) = p.best text l in output.longer old new (length short) (length text) le (w short k)
