-- Parts lie inside the program.
use Rattle.std.proofs.Common.{◌≡◌, ℕ, ◌+◌, ◌≤◌, Bool, true, false, cond, not, ◌||◌, eqb, inl, inr, List, [], ◌∷◌}
use Rattle.std.proofs.Common.{length, filter, get_or, Some, slice_get, refl, ap, sym, ◌∙◌, arith}
use Rattle.std.proofs.lemmas.Bool.{eqb-true, cases_lt, false≢true}
use Rattle.std.proofs.lemmas.Option.{slice_get-get_or}
use Rattle.std.proofs.lemmas.List.{get_or_past}
use Rattle.std.specs.List.{AllByRecursion}
use Rattle.omf_module.specs.declared.Standing.{Standing}
use Rattle.omf_module.specs.declared.Standing.TheVariants.{Absolute, Relocatable}
use Rattle.omf_module.specs.Sound.{SegmentFits, IsStanding}
use Rattle.omf_place.specs.Parts.{Site, combines, is_part}
use Rattle.omf_place.specs.inside.Ranks.{rank}
use Rattle.omf_place.specs.inside.Placing.{joins, is_common, is_relocatable}
use Rattle.omf_place.specs.Placed.{IsPlaced, FollowFrom, StandsAside, greatest, members, leads, is_unit}
use Rattle.omf_place.specs.Placed.{unit_length, address_of}
use Rattle.omf_place.specs.inside.Numbered.{IsNumberedFrom}
use Rattle.omf_place.specs.Tables.{segment_start, segment_end}
use Rattle.omf_place.specs.inside.Walk.{units}
use Rattle.omf_place.proofs.Bounds.{most-each, most-within}
use Rattle.omf_place.proofs.CombinedParts.{combines-symm}
use Rattle.omf_place.proofs.Leaders.{joins-alike, leader, or_either, or_right, and_both, combines-itself, at_own, position_at}
use Rattle.omf_place.proofs.Only.{All-unfilter, of_unit, part_combined}
use Rattle.omf_place.proofs.SiteLists.{one_place}
use Rattle.omf_place.proofs.Walks.{All-get, All-map, numbered_found}
use Rattle.std.proofs.Common.{eq-eqb}

pub All-filtered : {X : Type 0} (P : X → Type 0) (p : X → Bool) (xs : List X)
    → AllByRecursion (λ x. p x ≡ true → P x) xs → AllByRecursion P (filter p xs)
All-filtered P p [] ps = tt
All-filtered P p (x ∷ xs) ps =
    (elim (p x) as (λ b. p x ≡ b → AllByRecursion P (cond b (x ∷ filter p xs) (filter p xs))) [
      | true ↦ λ t. (ps.0 t, All-filtered P p xs ps.1)
      | false ↦ λ t. All-filtered P p xs ps.1
    ]) refl

follow-above : (ss : List Site) (A : List ℕ) (e : ℕ) (us : List Site) (s : ℕ) → FollowFrom ss A e us s → e ≤ s
follow-above ss A e [] s f = omega (arith, f)
follow-above ss A e (u ∷ us) s f =
    let h = follow-above ss A (address_of A u + unit_length ss u) us s f.1 in
    let n = f.0.1 in omega (arith, h, n)

follow-within : (ss : List Site) (A : List ℕ) (e : ℕ) (us : List Site) (s : ℕ) → FollowFrom ss A e us s
    → AllByRecursion (λ u. address_of A u + unit_length ss u ≤ s) us
follow-within ss A e [] s f = tt
follow-within ss A e (u ∷ us) s f = (
  follow-above ss A (address_of A u + unit_length ss u) us s f.1,
  follow-within ss A (address_of A u + unit_length ss u) us s f.1,
)

module _ (ss : List Site) (A : List ℕ) (size : ℕ) (numbered : IsNumberedFrom 0 ss) (placed : IsPlaced ss A size) where
  greatest-each : (f : Site → ℕ) (a b : Site) → slice_get ss b.position ≡ Some b → combines a b ≡ true
      → f b ≤ greatest f (members ss a)
  greatest-each f a b hb t = All-get (λ c. combines a c ≡ true → f c ≤ greatest f (members ss a)) ss b.position b
      (All-unfilter (λ c. f c ≤ greatest f (members ss a)) (combines a) ss (most-each f 0 (members ss a))) hb t

  unit-within : (a : Site) → slice_get ss a.position ≡ Some a → is_part a ≡ true → is_unit ss a ≡ true
      → address_of A a + unit_length ss a ≤ size
  unit-within a ha part unit =
      of_unit ss (λ u. address_of A u + unit_length ss u ≤ size) (follow-within ss A 0 (units ss) size placed.units) a
      ha part unit

  own-length : (a : Site) → slice_get ss a.position ≡ Some a → a.segment.length ≤ unit_length ss a
  own-length a ha =
      let g = greatest-each (λ b. b.segment.length) a a ha (combines-itself a) in
      elim (is_common a) as (λ c.
      a.segment.length ≤ cond c (greatest (λ b. b.segment.length) (members ss a)) a.segment.length) [
        | true ↦ g
        | false ↦ omega arith
      ]

  common-along : (a b : Site) → slice_get ss a.position ≡ Some a → slice_get ss b.position ≡ Some b
      → combines a b ≡ true → is_common a ≡ is_common b
  common-along a b ha hb t =
      elim (or_either (eqb a.position b.position) _ t) [
        | inl p ↦ ap is_common (one_place ss a b ha hb (eqb-true _ _ p))
        | inr q ↦
            let h = and_both (joins a.segment.standing b.segment.standing) _ q in
            (joins-alike a.segment.standing b.segment.standing h.0).common
      ]

  aside : (a : Site) → slice_get ss a.position ≡ Some a → is_part a ≡ true → is_unit ss a ≡ false
      → address_of A a ≡ get_or A (rank ss a).segment 0
  aside a ha part no_unit =
      (elim a.segment.standing as (λ st.
      is_relocatable st ≡ true → StandsAside ss A a st → address_of A a ≡ get_or A (rank ss a).segment 0) [
        | Absolute frame offset ↦ λ e s. cc
        | Relocatable alignment kind ↦ λ e s. s no_unit
      ]) part (All-get (λ b. StandsAside ss A b b.segment.standing) ss a.position a placed.others ha)

  pub part-within : (a : Site) → slice_get ss a.position ≡ Some a → is_part a ≡ true
      → address_of A a + a.segment.length ≤ size
  part-within a ha part =
      (elim (is_unit ss a) as (λ u. is_unit ss a ≡ u → address_of A a + a.segment.length ≤ size) [
        | true ↦ λ u. let h = unit-within a ha part u in let k = own-length a ha in omega (arith, h, k)
        | false ↦ λ u.
            let l = leader ss a numbered ha in
            let b = l.0 in
            let w = l.1 in
            let bpart : is_part b ≡ true = part_combined ss a b ha w.at part w.combined in
            let bunit : is_unit ss b ≡ true =
            or_right (not (is_common b)) (leads ss b) (eq-eqb (rank ss b).segment b.position w.leads) in
            let acommon : is_common a ≡ true = (elim (is_common a) as (λ c. (not c || leads ss a) ≡ false → c ≡ true) [
              | true ↦ λ e. refl
              | false ↦ λ e. cc
            ]) u in
            let bcommon : is_common b ≡ true = sym (common-along a b ha w.at w.combined) ∙ acommon in
            let here : address_of A a ≡ address_of A b = aside a ha part u ∙ ap (λ k. get_or A k 0) (sym w.is) in
            let there = unit-within b w.at bpart bunit in
            let long : unit_length ss b ≡ greatest (λ c. c.segment.length) (members ss b) = rw bcommon refl in
            let own = greatest-each (λ c. c.segment.length) b a ha (combines-symm ss numbered a b ha w.at w.combined) in
            omega (arith, here, there, long, own)
      ]) refl

  pub start-within : (a : Site) → slice_get ss a.position ≡ Some a → is_part a ≡ true → segment_start ss A a ≤ size
  start-within a ha part =
      let l = leader ss a numbered ha in
      let h = part-within l.0 l.1.at (part_combined ss a l.0 ha l.1.at part l.1.combined) in
      let e : segment_start ss A a ≡ address_of A l.0 = ap (λ k. get_or A k 0) (sym l.1.is) in omega (arith, h, e)

  module _ (sound : AllByRecursion (λ a. SegmentFits a.segment) ss) where
    -- where an absolute segment ends
    absolute-within : (a : Site) → slice_get ss a.position ≡ Some a → is_part a ≡ false
        → address_of A a + a.segment.length ≤ 1114351
    absolute-within a ha no_part =
        let own : SegmentFits a.segment = All-get (λ b. SegmentFits b.segment) ss a.position a sound ha in
        (elim a.segment.standing as (λ st.
        is_relocatable st ≡ false → IsStanding st → StandsAside ss A a st
        → address_of A a + a.segment.length ≤ 1114351) [
          | Absolute frame offset ↦
              λ e i s. let f = i.0 in let o = i.1 in let l = own.length in omega (arith, f, o, l, s)
          | Relocatable alignment kind ↦ λ e i s. cc
        ]) no_part own.standing (All-get (λ b. StandsAside ss A b b.segment.standing) ss a.position a placed.others ha)

    pub each-within : (n : ℕ) → size ≤ n → 1114351 ≤ n → AllByRecursion (λ a. address_of A a + a.segment.length ≤ n) ss
    each-within n hs hn =
        All-map (λ a. slice_get ss a.position ≡ Some a) (λ a. address_of A a + a.segment.length ≤ n) ss
        (λ a ha. (elim (is_part a) as (λ b. is_part a ≡ b → address_of A a + a.segment.length ≤ n) [
          | true ↦ λ e. let h = part-within a ha e in omega (arith, h)
          | false ↦ λ e. let h = absolute-within a ha e in omega (arith, h)
        ]) refl) (numbered_found ss numbered)

    pub address-within : (n : ℕ) → size ≤ n → 1114351 ≤ n → (k : ℕ) → get_or A k 0 ≤ n
    address-within n hs hn k =
        elim (cases_lt k (length ss)) [
          | inl h ↦
              let a = get_or ss k no_site in
              let at : slice_get ss a.position ≡ Some a = at_own ss k a numbered (slice_get-get_or ss k no_site h) in
              let e : a.position ≡ k =
              (let q = position_at 0 ss k a numbered (slice_get-get_or ss k no_site h) in omega (arith, q)) in
              let w : address_of A a + a.segment.length ≤ n =
              All-get (λ b. address_of A b + b.segment.length ≤ n) ss a.position a (each-within n hs hn) at in
              let f : address_of A a ≡ get_or A k 0 = ap (λ j. get_or A j 0) e in
              omega (arith, w, f)
          | inr h ↦
              let e : get_or A k 0 ≡ 0 =
              get_or_past A k 0 (let len : length A ≡ length ss = placed.each in omega (arith, len)) in omega (arith, e)
        ]
      where
        no_site : Site
        no_site = record {
          position = 0;
          input = 0;
          number = 0;
          segment = record { name = []; class = []; length = 0; standing = Absolute 0 0 };
        }

    pub end-low : (n : ℕ) → size ≤ n → 1114351 ≤ n → (a : Site) → segment_end ss A a ≤ n
    end-low n hs hn a = most-within (λ b. address_of A b + b.segment.length) 0 n (members ss a) (omega arith)
        (All-filtered (λ b. address_of A b + b.segment.length ≤ n) (combines a) ss
        (All-map (λ b. address_of A b + b.segment.length ≤ n)
        (λ b. combines a b ≡ true → address_of A b + b.segment.length ≤ n) ss (λ b h t. h) (each-within n hs hn)))
