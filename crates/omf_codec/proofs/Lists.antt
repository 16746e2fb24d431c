-- Lists that go on to the end of a body, read and written item by item.
use Rattle.std.proofs.Common.{◌≡◌, ℕ, ◌+◌, ◌<◌, ◌≤◌, List, [], ◌∷◌, ◌++◌, length, map, drop, get_or, inl, inr, ◌⊎◌}
use Rattle.std.proofs.Common.{refl, sym, ap, subst, ◌∙◌, append_assoc, append-nil, arith}
use Rattle.std.specs.Prelude.{replicate, Ok, Err}
use Rattle.std.proofs.lemmas.List.{length-append, drop_more, drop_all}
use Rattle.std.proofs.lemmas.List.Concat.{flat_map-cons}
use Rattle.std.specs.List.{flat_map}
use Rattle.omf_codec.specs.Language.{each}
use Rattle.omf_codec.specs.declared.codec.ReadError.{ReadError}
use Rattle.omf_codec.specs.declared.codec.ReadError.TheVariants as errors
use Rattle.omf_codec.specs.declared.output.Unwritten.{Unwritten}
use Rattle.omf_codec.specs.inside.Format.{join, Format, IsFree, NoneBegins, Completes, Found, Fails, Lawful, IsOutput}
use Rattle.omf_codec.specs.inside.Format.{Writes, Written, WritesItem}
use Rattle.omf_codec.specs.inside.FormatLaws.{same, to_end}
use Rattle.omf_codec.proofs.Parts.{first_fails, second_written}

-- what was read so far
pub record SoFar {I A : Type 0} (F : Format I A) (bytes : List ℕ) (xs : List A) (rest : List ℕ) : Type 0 where
  pub front : List ℕ
  pub parts : bytes ≡ front ++ rest
  pub spelled : each F.Text xs front

module _ {I A : Type 0} (F : Format I A) where
  pub each_both : (xs ys : List A) (s t : List ℕ) → each F.Text xs s → each F.Text ys t
      → each F.Text (xs ++ ys) (s ++ t)
  each_both [] ys s t l m = subst (λ (k : List ℕ). each F.Text ys (k ++ t)) (sym l) m
  each_both (x ∷ xs) ys s t l m =
      join l.front (l.rest ++ t) (ap (λ (k : List ℕ). k ++ t) l.parts ∙ append_assoc l.front l.rest t) l.first
      (each_both xs ys l.rest t l.second m)

  each_more : (xs : List A) (y : A) (front text : List ℕ) → each F.Text xs front → F.Text y text
      → each F.Text (xs ++ y ∷ []) (front ++ text)
  each_more xs y front text l m = each_both xs (y ∷ []) front text l (join text [] (sym (append-nil text)) m refl)

  pub so_far_more : (bytes : List ℕ) (xs : List A) (rest : List ℕ) (y : A) (after : List ℕ) → SoFar F bytes xs rest
      → Found F rest y after → SoFar F bytes (xs ++ y ∷ []) after
  so_far_more bytes xs rest y after s f = record {
    front = s.front ++ f.front;
    parts = s.parts ∙ ap (λ (t : List ℕ). s.front ++ t) f.parts ∙ sym (append_assoc s.front f.front after);
    spelled = each_more xs y s.front f.front s.spelled f.spelled;
  }

  module _ (law : Lawful F) (unended : IsFree F) where
    -- no text begins the rest, so what goes on behind these texts is none
    pub none_each : (xs ys : List A) (s t rest q : List ℕ) → (length q < length rest) ⊎ (length xs < length ys)
        → each F.Text xs s → each F.Text ys t → NoneBegins F rest → s ++ rest ≡ t ++ q → ⊥
    none_each xs [] s t rest q (inl lt) l m h e =
        omega (arith, lt, ap length e, length-append s rest, length-append t q, ap length m)
    none_each xs [] s t rest q (inr lt) l m h e = omega (arith, lt)
    none_each [] (y ∷ ys) s t rest q more l m h e =
        h y m.front (m.rest ++ q) m.first (unended (m.rest ++ q))
        (ap (λ (k : List ℕ). k ++ rest) (sym l) ∙ e ∙ ap (λ (k : List ℕ). k ++ q) m.parts
        ∙ append_assoc m.front m.rest q)
    none_each (x ∷ xs) (y ∷ ys) s t rest q more l m h e =
        let a = same F law unended x y l.front m.front (l.rest ++ rest) (m.rest ++ q) l.first m.first
        (sym (append_assoc l.front l.rest rest) ∙ ap (λ (k : List ℕ). k ++ rest) (sym l.parts) ∙ e
        ∙ ap (λ (k : List ℕ). k ++ q) m.parts ∙ append_assoc m.front m.rest q) in
        none_each xs ys l.rest m.rest rest q (fewer more) l.second m.second h a.rest
      where
        fewer : (length q < length rest) ⊎ (length (x ∷ xs) < length (y ∷ ys))
            → (length q < length rest) ⊎ (length xs < length ys)
        fewer (inl lt) = inl lt
        fewer (inr lt) = inr (omega (arith, lt))

  module _ {V : Type 0} (items : V → List I) (law : Lawful F) (unended : IsFree F) where
    pub list_err : (bytes : List ℕ) (xs : List A) (rest : List ℕ) (e : ReadError) → 0 < length rest
        → SoFar F bytes xs rest → Fails F rest e → Fails (to_end F items) bytes e
    list_err bytes xs rest errors.Memory some s f = tt
    list_err bytes xs rest (errors.Refused bad) some s f = record {
      front = s.front ++ f.front;
      parts = s.parts ∙ ap (λ (t : List ℕ). s.front ++ t) f.parts ∙ sym (append_assoc s.front f.front bad.now);
      none = none bytes rest s.parts some f.none;
      completes = inr (go f.completes);
      stops =
          λ b after more is.
          none ((s.front ++ f.front) ++ b ∷ more) (f.front ++ b ∷ more) (append_assoc s.front f.front (b ∷ more))
          (omega (arith, length-append f.front (b ∷ more))) (f.stops b after more is);
    }
      where
        none : (bytes rest : List ℕ) → bytes ≡ s.front ++ rest → 0 < length rest → NoneBegins F rest
            → NoneBegins (to_end F items) bytes
        none bytes rest is some h ys text q l u e =
            none_each law unended xs ys s.front text rest q (inl (omega (arith, some, ap length u))) s.spelled l h
            (sym is ∙ e)

        go : (f.front ≡ []) ⊎ Completes F f.front → Completes (to_end F items) (s.front ++ f.front)
        go (inl e) = (
          0,
          xs,
          subst (each F.Text xs)
              (sym (append-nil (s.front ++ f.front) ∙ ap (λ (t : List ℕ). s.front ++ t) e ∙ append-nil s.front))
              s.spelled,
        )
        go (inr (n, y, l)) = (
          n,
          xs ++ y ∷ [],
          subst (each F.Text (xs ++ y ∷ [])) (sym (append_assoc s.front f.front (replicate n 0)))
              (each_more xs y s.front (f.front ++ replicate n 0) s.spelled l),
        )

-- ---- written

module _ {S : Type 0} (Takes : S → List ℕ → S → Type 0) (Refuses : S → ℕ → S → Type 0)
    (output : IsOutput Takes Refuses) {I A : Type 0} (F : Format I A) (law : Lawful F) where
  abbrev pub WritesEach : List I → S → S → Written → Type 0
  WritesEach xs = Writes Takes Refuses (each F.Text (map F.view xs)) (flat_map F.canonical (map F.view xs))

  -- writing the items from here on writes all
  abbrev pub Left : List I → S → ℕ → S → Type 0
  Left xs old i now = (new : S) (r : Written) → WritesEach (drop i xs) now new r → WritesEach xs old new r

  at_item : (xs : List I) (i : ℕ) (x : I) → i < length xs → x ≡ get_or xs i x → drop i xs ≡ x ∷ drop (i + 1) xs
  at_item xs i x lt is = drop_more xs i x lt ∙ ap (λ y. y ∷ drop (i + 1) xs) (sym is)

  pub left_more : (xs : List I) (old now mid : S) (i : ℕ) (x : I) → i < length xs → x ≡ get_or xs i x
      → Left xs old i now → F.Text (F.view x) (F.canonical (F.view x)) × Takes now (F.canonical (F.view x)) mid
      → Left xs old (i + 1) mid
  left_more xs old now mid i x lt is so_far w new r k =
      so_far new r (subst (λ ys. WritesEach ys now new r) (sym (at_item xs i x lt is))
      (rw flat_map-cons
      (second_written Takes Refuses output F law (F.view x) (each F.Text (map F.view (drop (i + 1) xs)))
      (flat_map F.canonical (map F.view (drop (i + 1) xs))) now mid new r w k)))

  pub left_fails : (xs : List I) (old now new : S) (i : ℕ) (x : I) (e : Unwritten) → i < length xs → x ≡ get_or xs i x
      → Left xs old i now → WritesItem Takes Refuses F x now new (Err e) → WritesEach xs old new (Err e)
  left_fails xs old now new i x e lt is so_far w =
      so_far new (Err e) (subst (λ ys. WritesEach ys now new (Err e)) (sym (at_item xs i x lt is))
      (first_fails Takes Refuses output now new w))

  pub left_done : (xs : List I) (old now : S) (i : ℕ) → length xs ≤ i → Left xs old i now
      → WritesEach xs old now (Ok tt)
  left_done xs old now i le so_far =
      so_far now (Ok tt) (subst (λ ys. WritesEach ys now now (Ok tt)) (sym (drop_all i xs le)) (refl, output.none now))
