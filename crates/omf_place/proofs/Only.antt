-- A program is placed in one way.
use Rattle.std.proofs.Common.{◌≡◌, ℕ, zero, suc, ◌+◌, ◌*◌, ◌/◌, ◌<◌, ◌≤◌, Bool, true, false, cond, not, eqb, eq-eqb}
use Rattle.std.proofs.Common.{inl, inr, List, [], ◌∷◌, length, filter, Some, slice_get, slice_index, refl, ap, sym, ◌∙◌}
use Rattle.std.proofs.Common.{arith, subst}
use Rattle.std.specs.List.{AllByRecursion}
use Rattle.std.proofs.Math.Nat.{mul-le-mul_left}
use Rattle.std.proofs.lemmas.Bool.{cases_lt, eqb-true, false≢true}
use Rattle.std.proofs.lemmas.List.{ext_get_or}
use Rattle.omf_module.specs.declared.Standing.{Standing}
use Rattle.omf_module.specs.declared.Standing.TheVariants.{Absolute, Relocatable}
use Rattle.omf_place.specs.Parts.{Site, inserted, sorted, placement_order, is_part, combines}
use Rattle.omf_place.specs.inside.Ranks.{rank, before}
use Rattle.omf_place.specs.inside.Placing.{is_common, is_relocatable, joins, parts}
use Rattle.omf_place.specs.Placed.{IsNextStart, FollowFrom, StandsAside, IsPlaced, address_of, is_unit}
use Rattle.omf_place.specs.Placed.{leads, unit_alignment, unit_length}
use Rattle.omf_place.specs.inside.Placing.{IsOnlyPlacement}
use Rattle.omf_place.specs.inside.Numbered.{IsNumberedFrom}
use Rattle.omf_place.specs.inside.Walk.{IsUnitBounded, units}
use Rattle.omf_place.proofs.Walks.{All-get, All-filter, All-map}
use Rattle.omf_place.proofs.Leaders.{joins-alike, leader, at_own, one_place, position_at, and_both, or_either, or_right}

next-le : (e n x y : ℕ) → 0 < n → IsNextStart e n x → IsNextStart e n y → x < y → ⊥
next-le e n x y pos f g h =
    let q : x / n < y / n = elim (cases_lt (x / n) (y / n))
    [ inl p ↦ p | inr p ↦ absurd (let m = mul-le-mul_left n p in omega (arith, m, f.0, g.0)) ] in
    let m : n * (x / n + 1) ≤ n * (y / n) = mul-le-mul_left n (omega arith) in
    omega (arith, f.0, g.0, f.1, g.2, m)

next-unique : (e n x y : ℕ) → 0 < n → IsNextStart e n x → IsNextStart e n y → x ≡ y
next-unique e n x y pos f g =
    elim (cases_lt x y) [
      | inl h ↦ absurd (next-le e n x y pos f g h)
      | inr h ↦ elim (cases_lt y x) [ inl k ↦ absurd (next-le e n y x pos g f k) | inr k ↦ omega arith ]
    ]

Follow-same : (ss : List Site) (A B : List ℕ) (e : ℕ) (us : List Site) (s t : ℕ) →
    AllByRecursion (λ u. 0 < unit_alignment ss u) us →
    FollowFrom ss A e us s → FollowFrom ss B e us t → AllByRecursion (λ u. address_of A u ≡ address_of B u) us × (s ≡ t)
Follow-same ss A B e [] s t pos f g = (tt, f ∙ sym g)
Follow-same ss A B e (u ∷ us) s t pos f g =
    let same : address_of A u ≡ address_of B u =
    next-unique e (unit_alignment ss u) (address_of A u) (address_of B u) pos.0 f.0 g.0 in
    let rest =
    Follow-same ss A B (address_of A u + unit_length ss u) us s t pos.1 f.1
    (subst (λ z. FollowFrom ss B (z + unit_length ss u) us t) (sym same) g.1) in
    ((same, rest.0), rest.1)

pub All-unfilter : {X : Type 0} (P : X → Type 0) (p : X → Bool) (xs : List X) → AllByRecursion P (filter p xs)
    → AllByRecursion (λ x. p x ≡ true → P x) xs
All-unfilter P p [] ps = tt
All-unfilter P p (x ∷ xs) ps =
    (elim (p x) as (λ b.
    p x ≡ b → AllByRecursion P (cond b (x ∷ filter p xs) (filter p xs))
    → (p x ≡ true → P x) × AllByRecursion (λ y. p y ≡ true → P y) xs) [
      | true ↦
          λ t qs. ((λ _. qs.0), All-unfilter P p xs qs.1)
      | false ↦ λ t qs. ((λ h. absurd (let v : true ≡ false = sym h ∙ t in cc)), All-unfilter P p xs qs)
    ]) refl ps

All-uninserted : {X : Type 0} (less : X → X → Bool) (P : X → Type 0) (x : X) (ys : List X)
    → AllByRecursion P (inserted less x ys) → P x × AllByRecursion P ys
All-uninserted less P x [] ps = (ps.0, tt)
All-uninserted less P x (y ∷ ys) ps =
    (elim (less x y) as (λ b.
    AllByRecursion P (cond b (x ∷ y ∷ ys) (y ∷ inserted less x ys)) → P x × (P y × AllByRecursion P ys))
    [ true ↦ λ qs. (qs.0, qs.1) | false ↦ λ qs. let r = All-uninserted less P x ys qs.1 in (r.0, (qs.0, r.1)) ]) ps

All-unsorted : {X : Type 0} (less : X → X → Bool) (P : X → Type 0) (xs : List X) → AllByRecursion P (sorted less xs)
    → AllByRecursion P xs
All-unsorted less P [] ps = tt
All-unsorted less P (x ∷ xs) ps =
    let r = All-uninserted less P x (sorted less xs) ps in (r.0, All-unsorted less P xs r.1)

-- what holds of each unit holds of each part that is one
pub of_unit : (ss : List Site) (P : Site → Type 0) → AllByRecursion P (units ss) → (a : Site)
    → slice_get ss a.position ≡ Some a → is_part a ≡ true → is_unit ss a ≡ true → P a
of_unit ss P all a at part unit =
    All-get (λ x. is_part x ≡ true → is_unit ss x ≡ true → P x) ss a.position a
    (All-unfilter (λ x. is_unit ss x ≡ true → P x) is_part ss
    (All-unsorted (λ x y. before (rank ss x) (rank ss y)) (λ x. is_unit ss x ≡ true → P x) (parts ss)
    (All-unfilter P (is_unit ss) (placement_order ss) all)))
    at part unit

-- what combines with a part is one
part_joined : (s t : Standing) → joins s t ≡ true → is_relocatable t ≡ true
part_joined s (Relocatable b k) e = refl
part_joined s (Absolute frame offset) e = let h = joins-alike s (Absolute frame offset) e in absurd
    (let f : joins s (Absolute frame offset) ≡ false = rw (h.public, h.stack, h.common) refl in
    false≢true (sym f ∙ e))

pub part_combined : (ss : List Site) (a b : Site) → slice_get ss a.position ≡ Some a → slice_get ss b.position ≡ Some b
    → is_part a ≡ true → combines a b ≡ true → is_part b ≡ true
part_combined ss a b at bt part e =
    elim (or_either (eqb a.position b.position) _ e) [
      | inl p ↦ subst (λ x. is_part x ≡ true) (one_place ss a b at bt (eqb-true _ _ p)) part
      | inr p ↦
          part_joined a.segment.standing b.segment.standing
          (and_both (joins a.segment.standing b.segment.standing) _ p).0
    ]

site-same : (ss : List Site) (A B : List ℕ) → IsNumberedFrom 0 ss →
    AllByRecursion (λ u. address_of A u ≡ address_of B u) (units ss) →
    (a : Site) → slice_get ss a.position ≡ Some a → StandsAside ss A a a.segment.standing →
    StandsAside ss B a a.segment.standing → address_of A a ≡ address_of B a
site-same ss A B numbered all a at =
    (elim a.segment.standing as (λ st.
    a.segment.standing ≡ st → StandsAside ss A a st → StandsAside ss B a st → address_of A a ≡ address_of B a) [
      | Absolute frame offset ↦ λ e p q. p ∙ sym q
      | Relocatable alignment kind ↦ λ e p q.
          let part : is_part a ≡ true = ap is_relocatable e in
          (elim (is_unit ss a) as (λ b. is_unit ss a ≡ b → address_of A a ≡ address_of B a) [
            | true ↦ λ t. of_unit ss (λ u. address_of A u ≡ address_of B u) all a at part t
            | false ↦ λ t.
                let l = leader ss a numbered at in
                let w = l.1 in
                let unit : is_unit ss l.0 ≡ true =
                or_right (not (is_common l.0)) (leads ss l.0) (eq-eqb (rank ss l.0).segment l.0.position w.leads) in
                let same : address_of A l.0 ≡ address_of B l.0 =
                of_unit ss (λ u. address_of A u ≡ address_of B u) all l.0 w.at
                (part_combined ss a l.0 at w.at part w.combined) unit in
                p t ∙ ap (λ i. slice_index A i) (sym w.is) ∙ same ∙ ap (λ i. slice_index B i) w.is ∙ sym (q t)
          ]) refl
    ]) refl

some_at : {X : Type 0} (xs : List X) (i : ℕ) → i < length xs → (x : X) × (slice_get xs i ≡ Some x)
some_at [] i h = absurd (omega arith)
some_at (x ∷ xs) zero h = (x, refl)
some_at (x ∷ xs) (suc i) h = some_at xs i (omega arith)

pub only_placement : (ss : List Site) (A : List ℕ) (s : ℕ) → IsNumberedFrom 0 ss
    → AllByRecursion (IsUnitBounded ss) (placement_order ss) → IsPlaced ss A s → IsOnlyPlacement ss A s
only_placement ss A s numbered bounds placed B t other =
    let both =
    Follow-same ss B A 0 (units ss) t s
    (All-map (IsUnitBounded ss) (λ u. 0 < unit_alignment ss u) (units ss) (λ u b. b.positive)
    (All-filter (IsUnitBounded ss) (is_unit ss) (placement_order ss) bounds)) other.units placed.units in (
      ext_get_or 0 B A (other.each ∙ sym placed.each) (λ i h.
          let inside : i < length ss = omega (arith, other.each) in
          let x = some_at ss i inside in
          let p : x.0.position ≡ i = position_at 0 ss i x.0 numbered x.1 ∙ omega arith in
          let same =
          site-same ss B A numbered both.0 x.0 (at_own ss i x.0 numbered x.1)
          (All-get (λ a. StandsAside ss B a a.segment.standing) ss i x.0 other.others x.1)
          (All-get (λ a. StandsAside ss A a a.segment.standing) ss i x.0 placed.others x.1) in
          subst (λ k. slice_index B k ≡ slice_index A k) p same),
      both.1,
    )
