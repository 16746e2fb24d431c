-- The first part of a combined segment is the first of its own.
use Rattle.std.proofs.Common.{◌≡◌, ℕ, zero, suc, ◌+◌, ◌<◌, Bool, true, false, ◌&&◌, ◌||◌, eqb, eq-eqb, inl, inr, ◌⊎◌}
use Rattle.std.proofs.Common.{List, [], ◌∷◌, length, get_or, Some, None, slice_get, refl, ap, sym, ◌∙◌, arith, subst}
use Rattle.std.specs.List.{position_or_len}
use Rattle.std.specs.Str.{bytes_eq}
use Rattle.std.proofs.lemmas.List.Sums.{position_or_len_is, fails_before_first, passes_at_first}
use Rattle.std.proofs.lemmas.Slice.Eq.{bytes_eq-Decides}
use Rattle.std.proofs.lemmas.Bool.{eqb-true, cases_lt, false≢true}
use Rattle.std.proofs.lemmas.Option.{slice_get-get_or, get_or_from_slice_get, slice_get_within}
use Rattle.omf_place.specs.inside.Numbered.{IsNumberedFrom}
use Rattle.omf_module.specs.declared.Kind.{Kind}
use Rattle.omf_module.specs.declared.Kind.TheVariants.{Private, Public, Stack, Common}
use Rattle.omf_module.specs.declared.Standing.{Standing}
use Rattle.omf_module.specs.declared.Standing.TheVariants.{Absolute, Relocatable}
use Rattle.omf_place.specs.Parts.{Site, combines, is_kind, same_class}
use Rattle.omf_place.specs.inside.Ranks.{rank}
use Rattle.omf_place.specs.inside.Placing.{joins}

-- two parts are of one kind
pub record AreAlike (s t : Standing) : Type 0 where
  pub public : is_kind Public s ≡ is_kind Public t
  pub stack : is_kind Stack s ≡ is_kind Stack t
  pub common : is_kind Common s ≡ is_kind Common t

-- parts whose kinds combine are of one kind
pub joins-alike : (s t : Standing) → joins s t ≡ true → AreAlike s t
joins-alike (Relocatable a Public) (Relocatable b Public) e = record { public = refl; stack = refl; common = refl }
joins-alike (Relocatable a Stack) (Relocatable b Stack) e = record { public = refl; stack = refl; common = refl }
joins-alike (Relocatable a Common) (Relocatable b Common) e = record { public = refl; stack = refl; common = refl }
joins-alike s t e = cc

joins-trans : (s t u : Standing) → joins s t ≡ true → joins t u ≡ true → joins s u ≡ true
joins-trans s t u e f = let h = joins-alike s t e in rw (h.public, h.stack, h.common) f

pub and_both : (p q : Bool) → (p && q) ≡ true → (p ≡ true) × (q ≡ true)
and_both true q e = (refl, e)
and_both false q e = cc

pub or_either : (p q : Bool) → (p || q) ≡ true → (p ≡ true) ⊎ (q ≡ true)
or_either true q e = inl refl
or_either false q e = inr e

bytes_eq-same : (xs ys : List ℕ) → bytes_eq xs ys ≡ true → xs ≡ ys
bytes_eq-same xs ys e = (bytes_eq-Decides xs ys).0 e

bytes_eq-trans : (xs ys zs : List ℕ) → bytes_eq xs ys ≡ true → bytes_eq ys zs ≡ true → bytes_eq xs zs ≡ true
bytes_eq-trans xs ys zs e f = subst (λ z. bytes_eq xs z ≡ true) (bytes_eq-same ys zs f) e

or_left : (p q : Bool) → p ≡ true → (p || q) ≡ true
or_left p q e = rw e refl

pub or_right : (p q : Bool) → q ≡ true → (p || q) ≡ true
or_right true q e = refl
or_right false q e = e

pub combines-itself : (a : Site) → combines a a ≡ true
combines-itself a = or_left (eqb a.position a.position) _ (eq-eqb a.position a.position refl)

-- of sites of one list, where the position tells the site
pub combines-trans : (a b c : Site) → (a.position ≡ b.position → a ≡ b) → (b.position ≡ c.position → b ≡ c)
    → combines a b ≡ true → combines b c ≡ true → combines a c ≡ true
combines-trans a b c ab bc e f =
    elim (or_either (eqb a.position b.position) _ e) [
      | inl p ↦ let h : a ≡ b = ab (eqb-true _ _ p) in subst (λ x. combines x c ≡ true) (sym h) f
      | inr p ↦ elim (or_either (eqb b.position c.position) _ f) [
        | inl q ↦ let h : b ≡ c = bc (eqb-true _ _ q) in subst (λ x. combines a x ≡ true) h e
        | inr q ↦
            let p1 = and_both (joins a.segment.standing b.segment.standing) _ p in
            let q1 = and_both (joins b.segment.standing c.segment.standing) _ q in
            let p2 = and_both (bytes_eq a.segment.name b.segment.name) _ p1.1 in
            let q2 = and_both (bytes_eq b.segment.name c.segment.name) _ q1.1 in
            let k : joins a.segment.standing c.segment.standing ≡ true = joins-trans _ b.segment.standing _ p1.0 q1.0 in
            let n : bytes_eq a.segment.name c.segment.name ≡ true = bytes_eq-trans _ b.segment.name _ p2.0 q2.0 in
            let m : same_class a c ≡ true = bytes_eq-trans _ b.segment.class _ p2.1 q2.1 in
            or_right (eqb a.position c.position) _ (rw (k, n, m) refl)
      ]
    ]

-- the leader of a
pub record Leads (ss : List Site) (a : Site) (b : Site) : Type 0 where
  pub at : slice_get ss b.position ≡ Some b
  pub is : b.position ≡ (rank ss a).segment
  pub combined : combines a b ≡ true
  pub leads : (rank ss b).segment ≡ b.position

pub one_place : (ss : List Site) (a b : Site) → slice_get ss a.position ≡ Some a → slice_get ss b.position ≡ Some b
    → a.position ≡ b.position → a ≡ b
one_place ss a b e f g = let h = ap (λ p. slice_get ss p) g in let k : Some a ≡ Some b = sym e ∙ h ∙ f in cc

pub position_at : (p : ℕ) (xs : List Site) (k : ℕ) (x : Site) → IsNumberedFrom p xs → slice_get xs k ≡ Some x
    → x.position ≡ p + k
position_at p [] k x n e = cc
position_at p (y ∷ ys) zero x n e =
    let e' : y ≡ x = cc in let f : y.position ≡ x.position = ap (λ (z : Site). z.position) e' in omega (arith, n.0)
position_at p (y ∷ ys) (suc k) x n e = let h = position_at (p + 1) ys k x n.1 e in omega (arith, h)

pub at_own : (ss : List Site) (k : ℕ) (x : Site) → IsNumberedFrom 0 ss → slice_get ss k ≡ Some x
    → slice_get ss x.position ≡ Some x
at_own ss k x n e =
    let h : k ≡ x.position = omega (arith, position_at 0 ss k x n e) in subst (λ p. slice_get ss p ≡ Some x) h e

pub leader : (ss : List Site) (a : Site) → IsNumberedFrom 0 ss → slice_get ss a.position ≡ Some a
    → (b : Site) × Leads ss a b
leader ss a numbered at =
    let i = position_or_len (combines a) ss in
    let inside : a.position < length ss = slice_get_within ss a.position a at in
    let self : get_or ss a.position a ≡ a = get_or_from_slice_get ss a.position a a at in
    let within : i < length ss = elim (cases_lt i (length ss)) [
      | inl h ↦ h
      | inr h ↦
          let fails : combines a (get_or ss a.position a) ≡ false =
          fails_before_first (combines a) ss a.position a (omega arith) in
          absurd
          (let t : combines a a ≡ true = combines-itself a in
          let u : combines a a ≡ false = subst (λ x. combines a x ≡ false) self fails in
          let v : true ≡ false = sym t ∙ u in cc)
    ] in
    let b = get_or ss i a in
    let got : slice_get ss i ≡ Some b = slice_get-get_or ss i a within in
    let pos : b.position ≡ i = let h = position_at 0 ss i b numbered got in omega (arith, h) in
    let atb : slice_get ss b.position ≡ Some b = subst (λ p. slice_get ss p ≡ Some b) (sym pos) got in
    let passes : combines a b ≡ true = passes_at_first (combines a) ss a within in (
      b,
      record {
        at = atb;
        is = pos;
        combined = passes;
        leads = position_or_len_is (combines b) ss i a (omega arith)
            (λ k h.
            let x = get_or ss k a in
            let gk : slice_get ss k ≡ Some x = slice_get-get_or ss k a (omega arith) in
            (elim (combines b x) as (λ z. combines b x ≡ z → combines b x ≡ false) [
              | true ↦ λ t.
                  let t1 : combines a x ≡ true =
                  combines-trans a b x (one_place ss a b at atb) (one_place ss b x atb (at_own ss k x numbered gk))
                  passes t in
                  let t2 : combines a x ≡ false = fails_before_first (combines a) ss k a h in
                  absurd (let v : true ≡ false = sym t1 ∙ t2 in cc)
              | false ↦ λ t. t
            ]) refl)
            (λ h. combines-itself b) ∙ sym pos;
      },
    )
