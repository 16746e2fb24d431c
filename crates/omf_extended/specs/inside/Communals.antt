-- The entries of COMDEF, up to one of another data type than 61H and 62H, and the bytes behind that.
use Rattle.std.proofs.Common.{◌≡◌, ℕ, Bool, true, false, eqb, List, [], ◌∷◌, ◌++◌, length, map}
use Rattle.std.proofs.Common.{Vec, Bor, refl, sym, ap, subst, ◌∙◌, append_assoc, append-nil, arith}
use Rattle.std.specs.Prelude.{IsTrue}
use Rattle.std.specs.List.{flat_map}
use Rattle.std.proofs.lemmas.Bool.{eqb-true}
use Rattle.std.proofs.lemmas.List.{length-append}
use Rattle.omf_codec.specs.Language.{IsBytes, ◌⋆◌ as Joined, each, Bytes}
use Rattle.omf_codec.specs.inside.Format.{join, Format, Lawful, Completes, IsFilled}
use Rattle.omf_codec.specs.inside.FormatLaws.{both, both_lawful, both_filled, made_lawful, made_filled, each_shortest}
use Rattle.omf_codec.specs.inside.FormatLaws.{each_bytes, same, IsBytes-joined}
use Rattle.omf_codec.specs.inside.PrimitiveLaws.{index, index_lawful, name, name_lawful, name_filled}
use Rattle.omf_wide.specs.Communals.{Communal, CommunalText}
use Rattle.omf_wide.specs.declared.communals.Communal as lent
use Rattle.omf_wide.specs.inside.Communals.{communal, communal_made, extent, extent_lawful}
use Rattle.omf_extended.specs.Body.{are_ended, is_other}

-- ---- an entry

pub communal_lawful : Lawful communal
communal_lawful = made_lawful (both name (both index extent)) communal communal_made
    (both_lawful name name_lawful (λ r. tt) (both index extent)
    (both_lawful index index_lawful (λ r. tt) extent extent_lawful)) (λ r. tt)

pub communal_filled : IsFilled communal
communal_filled = made_filled (both name (both index extent)) communal communal_made
    (both_filled name (both index extent) name_filled)

-- ---- which entry is the last

pub no_byte : (unknown : List ℕ) → IsTrue (are_ended [] unknown) → unknown ≡ []
no_byte [] h = refl
no_byte (b ∷ bs) h = absurd (omega (arith, eqb-true (length (b ∷ bs)) 0 h))

none_left : (cs : List Communal) → IsTrue (eqb (length cs) 0) → cs ≡ []
none_left [] h = refl
none_left (c ∷ cs) h = absurd (omega (arith, eqb-true (length (c ∷ cs)) 0 h))

pub known_ended : (c : Communal) (cs : List Communal) (u : List ℕ) → is_other c.extent ≡ false
    → IsTrue (are_ended (c ∷ cs) u) → IsTrue (are_ended cs u)
known_ended c cs u e h = rw e at h

pub other_ended : (c : Communal) (cs : List Communal) (u : List ℕ) → is_other c.extent ≡ true
    → IsTrue (are_ended (c ∷ cs) u) → cs ≡ []
other_ended c cs u e h = none_left cs (rw e at h)

-- ---- all entries, and what stands behind the last

-- the texts of entries and of what stands behind the last
abbrev pub ChainText : List Communal × List ℕ → List ℕ → Type 0
ChainText x text = IsTrue (are_ended x.0 x.1) × Joined (each CommunalText x.0) (Bytes x.1) text

-- entries to the end, or up to the last
abbrev pub chain : {A : Type 0} → Format (Vec lent.Communal A × Bor (List ℕ)) (List Communal × List ℕ)
chain = record {
  view = λ v. (map communal.view v.0.items, v.1.now);
  Text = ChainText;
  canonical = λ x. flat_map communal.canonical x.0 ++ x.1;
  Ends = λ rest. rest ≡ [];
  number = λ x. 0;
}

abbrev One : (xs ys : List Communal) (s t u v : List ℕ) → Type 0
One xs ys s t u v = (xs ≡ ys) × (s ≡ t) × (u ≡ v)

one : (xs ys : List Communal) (s t u v : List ℕ) → IsTrue (are_ended xs u) → IsTrue (are_ended ys v)
    → each CommunalText xs s → each CommunalText ys t → s ++ u ≡ t ++ v → One xs ys s t u v
one [] [] s t u v h k l m e = (refl, l ∙ sym m, no_byte u h ∙ sym (no_byte v k))
one [] (y ∷ ys) s t u v h k l m e = absurd (omega (
  arith,
  ap length e,
  length-append s u,
  length-append t v,
  ap length l,
  ap length (no_byte u h),
  ap length m.parts,
  length-append m.front m.rest,
  communal_filled y m.front m.first,
))
one (x ∷ xs) [] s t u v h k l m e = absurd (omega (
  arith,
  ap length e,
  length-append s u,
  length-append t v,
  ap length m,
  ap length (no_byte v k),
  ap length l.parts,
  length-append l.front l.rest,
  communal_filled x l.front l.first,
))
one (x ∷ xs) (y ∷ ys) s t u v h k l m e =
    let a = same communal communal_lawful (λ r. tt) x y l.front m.front (l.rest ++ u) (m.rest ++ v) l.first m.first
    (sym (append_assoc l.front l.rest u) ∙ ap (λ (k : List ℕ). k ++ u) (sym l.parts) ∙ e
    ∙ ap (λ (k : List ℕ). k ++ v) m.parts ∙ append_assoc m.front m.rest v) in
    let k' = subst (λ z. IsTrue (are_ended (z ∷ ys) v)) (sym a.value) k in
    let b = others (is_other x.extent) refl k' a.rest
    (λ p q. one xs ys l.rest m.rest u v p q l.second m.second a.rest) in (
      ap (λ z. z ∷ xs) a.value ∙ ap (λ zs. y ∷ zs) b.0,
      l.parts ∙ ap (λ (k : List ℕ). k ++ l.rest) a.text ∙ ap (λ (k : List ℕ). m.front ++ k) b.1 ∙ sym m.parts,
      b.2,
    )
  where
    others : (o : Bool) → is_other x.extent ≡ o → IsTrue (are_ended (x ∷ ys) v) → l.rest ++ u ≡ m.rest ++ v
        → (IsTrue (are_ended xs u) → IsTrue (are_ended ys v) → One xs ys l.rest m.rest u v)
        → One xs ys l.rest m.rest u v
    others false o k' a others_one = others_one (known_ended x xs u o h) (known_ended x ys v o k')
    others true o k' a others_one =
        let xs-is = other_ended x xs u o h in
        let ys-is = other_ended x ys v o k' in
        let s-is : l.rest ≡ [] = subst (λ zs. each CommunalText zs l.rest) xs-is l.second in
        let t-is : m.rest ≡ [] = subst (λ zs. each CommunalText zs m.rest) ys-is m.second in (
          xs-is ∙ sym ys-is,
          s-is ∙ sym t-is,
          sym (ap (λ (k : List ℕ). k ++ u) s-is) ∙ a ∙ ap (λ (k : List ℕ). k ++ v) t-is,
        )

pub chain_lawful : {A : Type 0} → Lawful (chain {A = A})
chain_lawful = record {
  one = λ x y s t r q l m u v e.
      let is : s ≡ t = sym (append-nil s) ∙ ap (λ (k : List ℕ). s ++ k) (sym u) ∙ e
      ∙ ap (λ (k : List ℕ). t ++ k) v ∙ append-nil t in
      let i = l.1 in
      let j = m.1 in
      let whole : i.front ++ x.1 ≡ j.front ++ y.1 = ap (λ (k : List ℕ). i.front ++ k) (sym i.second.1)
      ∙ sym i.parts ∙ is ∙ j.parts ∙ ap (λ (k : List ℕ). j.front ++ k) j.second.1 in
      let a = one x.0 y.0 i.front j.front x.1 y.1 l.0 m.0 i.first j.first whole in
      (rw (a.0, a.2) refl, is);
  shortest = λ x text l.
      let j = l.1 in
      let a = each_shortest communal communal_lawful x.0 j.front j.first in (
        (l.0, join (flat_map communal.canonical x.0) x.1 refl a.0 (j.second.0, refl)),
        omega (
          arith,
          a.1,
          ap length j.parts,
          length-append j.front j.rest,
          length-append (flat_map communal.canonical x.0) x.1,
          ap length j.second.1,
        ),
      );
  bytes = λ x text l.
      IsBytes-joined text l.1 (each_bytes communal communal_lawful x.0 l.1.front l.1.first)
      (subst IsBytes (sym l.1.second.1) l.1.second.0);
}

pub chain_blank : Completes (chain {A = ℕ}) []
chain_blank = (0, ([], []), (refl, join [] [] refl refl (tt, refl)))
