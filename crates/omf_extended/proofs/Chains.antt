-- Entries of COMDEF, read one by one.
use Rattle.std.proofs.Common.{◌≡◌, ℕ, ◌<◌, ◌⊎◌, inl, inr, Bool, true, false, List, [], ◌∷◌, ◌++◌, length}
use Rattle.std.proofs.Common.{refl, sym, ap, subst, ◌∙◌, append_assoc, append-nil, arith}
use Rattle.std.specs.Prelude.{IsTrue, replicate, Ok, Err}
use Rattle.std.specs.List.{flat_map}
use Rattle.std.proofs.lemmas.List.{length-append}
use Rattle.omf_codec.proofs.Lists.{SoFar, each_both}
use Rattle.omf_codec.proofs.Parts.{second_written}
use Rattle.omf_codec.specs.Language.{◌⋆◌ as Joined, each, Bytes}
use Rattle.omf_codec.specs.declared.codec.ReadError.{ReadError}
use Rattle.omf_codec.specs.declared.codec.ReadError.TheVariants as errors
use Rattle.omf_codec.specs.inside.Format.{join, NoneBegins, Completes, Found, Fails, IsOutput, Writes, Written}
use Rattle.omf_codec.specs.inside.FormatLaws.{same, to_end, each_lawful}
use Rattle.omf_codec.specs.inside.PrimitiveLaws.{rest_of}
use Rattle.omf_wide.specs.Communals.{Communal, CommunalText}
use Rattle.omf_wide.specs.inside.Communals.{communal}
use Rattle.omf_extended.specs.Body.{are_ended, is_other}
use Rattle.omf_extended.specs.inside.Communals.{chain, ChainText, communal_lawful, communal_filled}
use Rattle.omf_extended.specs.inside.Communals.{known_ended, no_byte}

pub no_bytes : (bytes : List ℕ) → length bytes ≡ 0 → bytes ≡ []
no_bytes [] e = refl
no_bytes (b ∷ bytes) e = absurd (omega (arith, e))

-- the data type of each is known
abbrev pub AreKnown : List Communal → Type 0
AreKnown [] = Unit {0}
AreKnown (c ∷ cs) = (is_other c.extent ≡ false) × AreKnown cs

pub known_more : (cs : List Communal) (c : Communal) → AreKnown cs → is_other c.extent ≡ false
    → AreKnown (cs ++ c ∷ [])
known_more [] c k e = (e, tt)
known_more (d ∷ cs) c k e = (k.0, known_more cs c k.1 e)

known_end : (cs : List Communal) → AreKnown cs → IsTrue (are_ended cs [])
known_end [] k = refl
known_end (c ∷ cs) k = rw k.0 (known_end cs k.1)

-- one of another data type is the last
other_end : (cs : List Communal) (c : Communal) (unknown : List ℕ) → AreKnown cs → is_other c.extent ≡ true
    → IsTrue (are_ended (cs ++ c ∷ []) unknown)
other_end [] c unknown k e = rw e refl
other_end (d ∷ cs) c unknown k e = rw k.0 (other_end cs c unknown k.1 e)

any_end : (cs : List Communal) (c : Communal) → AreKnown cs → IsTrue (are_ended (cs ++ c ∷ []) [])
any_end cs c k = by (is_other c.extent) refl
  where
    by : (o : Bool) → is_other c.extent ≡ o → IsTrue (are_ended (cs ++ c ∷ []) [])
    by true e = other_end cs c [] k e
    by false e = known_end (cs ++ c ∷ []) (known_more cs c k e)

-- no entry begins the rest, so what goes on behind these is none
none_chain : (xs ys : List Communal) (s t rest v : List ℕ) → AreKnown xs → 0 < length rest
    → IsTrue (are_ended ys v) → each CommunalText xs s → each CommunalText ys t → NoneBegins communal rest
    → s ++ rest ≡ t ++ v → ⊥
none_chain xs [] s t rest v k some n l m h e =
    omega (
      arith,
      some,
      ap length e,
      length-append s rest,
      length-append t v,
      ap length m,
      ap length (no_byte v n),
    )
none_chain [] (y ∷ ys) s t rest v k some n l m h e =
    h y m.front (m.rest ++ v) m.first tt
    (ap (λ (k : List ℕ). k ++ rest) (sym l) ∙ e ∙ ap (λ (k : List ℕ). k ++ v) m.parts
    ∙ append_assoc m.front m.rest v)
none_chain (x ∷ xs) (y ∷ ys) s t rest v k some n l m h e =
    let a = same communal communal_lawful (λ r. tt) x y l.front m.front (l.rest ++ rest) (m.rest ++ v) l.first m.first
    (sym (append_assoc l.front l.rest rest) ∙ ap (λ (k : List ℕ). k ++ rest) (sym l.parts) ∙ e
    ∙ ap (λ (k : List ℕ). k ++ v) m.parts ∙ append_assoc m.front m.rest v) in
    let n' = subst (λ z. IsTrue (are_ended (z ∷ ys) v)) (sym a.value) n in
    none_chain xs ys l.rest m.rest rest v k.1 some (known_ended x ys v k.0 n') l.second m.second h a.rest

module _ (A : Type 0) (bytes : List ℕ) (xs : List Communal) (rest : List ℕ) (s : SoFar communal bytes xs rest)
    (k : AreKnown xs) where
  -- the entries go up to the end
  pub chain_done : rest ≡ [] → Found (chain {A = A}) bytes (xs, rest) rest
  chain_done e = record {
    front = s.front;
    parts = s.parts;
    spelled =
        rw e (known_end xs k, join s.front [] (sym (append-nil s.front)) s.spelled (tt, refl));
    ends = e;
  }

  -- an entry of another data type, and what stands behind it
  pub chain_ended : (y : Communal) (after unknown end : List ℕ) → is_other y.extent ≡ true
      → Found communal rest y after → Found rest_of after unknown end
      → Found (chain {A = A}) bytes (xs ++ y ∷ [], unknown) end
  chain_ended y after unknown end o f g = record {
    front = (s.front ++ f.front) ++ g.front;
    parts =
        s.parts ∙ ap (λ (t : List ℕ). s.front ++ t) (f.parts ∙ ap (λ (t : List ℕ). f.front ++ t) g.parts)
        ∙ sym (append_assoc s.front f.front (g.front ++ end))
        ∙ sym (append_assoc (s.front ++ f.front) g.front end);
    spelled = (
      other_end xs y unknown k o,
      join (s.front ++ f.front) g.front refl
          (each_both communal xs (y ∷ []) s.front f.front s.spelled
          (join f.front [] (sym (append-nil f.front)) f.spelled refl)) g.spelled,
    );
    ends = g.ends;
  }

  pub chain_err : (e : ReadError) → 0 < length rest → Fails communal rest e → Fails (chain {A = A}) bytes e
  chain_err errors.Memory some f = tt
  chain_err (errors.Refused bad) some f = record {
    front = s.front ++ f.front;
    parts = s.parts ∙ ap (λ (t : List ℕ). s.front ++ t) f.parts ∙ sym (append_assoc s.front f.front bad.now);
    none = none bytes rest s.parts some f.none;
    completes = inr (go f.completes);
    stops =
        λ b after more is.
        none ((s.front ++ f.front) ++ b ∷ more) (f.front ++ b ∷ more) (append_assoc s.front f.front (b ∷ more))
        (omega (arith, length-append f.front (b ∷ more))) (f.stops b after more is);
  }
    where
      none : (bytes rest : List ℕ) → bytes ≡ s.front ++ rest → 0 < length rest → NoneBegins communal rest
          → NoneBegins (chain {A = A}) bytes
      none bytes rest is some h y text q l u e =
          let j = l.1 in
          none_chain xs y.0 s.front j.front rest y.1 k some l.0 s.spelled j.first h
          (sym is ∙ e ∙ ap (λ (t : List ℕ). text ++ t) u ∙ append-nil text ∙ j.parts
          ∙ ap (λ (t : List ℕ). j.front ++ t) j.second.1)

      go : (f.front ≡ []) ⊎ Completes communal f.front → Completes (chain {A = A}) (s.front ++ f.front)
      go (inl e) = (
        0,
        (xs, []),
        (
          known_end xs k,
          join s.front []
              (append-nil (s.front ++ f.front) ∙ ap (λ (t : List ℕ). s.front ++ t) e)
              s.spelled (tt, refl),
        ),
      )
      go (inr (n, y, l)) = (
        n,
        (xs ++ y ∷ [], []),
        (
          any_end xs y k,
          join (s.front ++ (f.front ++ replicate n 0)) []
              (append_assoc s.front f.front (replicate n 0)
              ∙ sym (append-nil (s.front ++ (f.front ++ replicate n 0))))
              (each_both communal xs (y ∷ []) s.front (f.front ++ replicate n 0) s.spelled
              (join (f.front ++ replicate n 0) [] (sym (append-nil (f.front ++ replicate n 0))) l refl))
              (tt, refl),
        ),
      )

-- ---- written

-- entries, and what stands behind the last
pub chain_written : {S : Type 0} (Takes : S → List ℕ → S → Type 0) (Refuses : S → ℕ → S → Type 0)
    (output : IsOutput Takes Refuses) (xs : List Communal) (unknown : List ℕ) (old mid new : S) (r : Written)
    → IsTrue (are_ended xs unknown)
    → each CommunalText xs (flat_map communal.canonical xs) × Takes old (flat_map communal.canonical xs) mid
    → Writes Takes Refuses (Bytes unknown) unknown mid new r
    → Writes Takes Refuses (ChainText (xs, unknown)) (flat_map communal.canonical xs ++ unknown) old new r
chain_written Takes Refuses output xs unknown old mid new r e f w =
    go r
    (second_written Takes Refuses output (to_end communal (λ cs. cs))
    (each_lawful communal (λ cs. cs) communal_lawful (λ r. tt) communal_filled) xs (Bytes unknown) unknown old mid new r
    f w)
  where
    go : (r : Written)
        → Writes Takes Refuses (Joined (each CommunalText xs) (Bytes unknown))
        (flat_map communal.canonical xs ++ unknown) old new r
        → Writes Takes Refuses (ChainText (xs, unknown)) (flat_map communal.canonical xs ++ unknown) old new r
    go (Ok u) w = ((e, w.0), w.1)
    go (Err x) w = λ text l. w text l.1
