-- Tables by the place of a combined segment, read at a site.
use Rattle.std.proofs.Common.{◌≡◌, ℕ, zero, suc, ◌+◌, ◌<◌, List, [], ◌∷◌, ◌++◌, map, length, take, get_or, Some}
use Rattle.std.proofs.Common.{slice_get, nat_eq, refl, ap, sym, ◌∙◌, arith, subst}
use Rattle.std.proofs.lemmas.List.{take_more, map-append, length-map}
use Rattle.std.proofs.lemmas.Option.{slice_get-get_or, slice_get-map}
use Rattle.std.specs.List.{AllByRecursion}
use Rattle.std.specs.Option.{option_map}
use Rattle.std.proofs.Common.{true, false, cond, not, ◌||◌}
use Rattle.std.proofs.lemmas.Bool.{eqb-true}
use Rattle.omf_module.specs.declared.Standing.{Standing}
use Rattle.omf_module.specs.declared.Standing.TheVariants.{Absolute, Relocatable}
use Rattle.omf_place.specs.declared.sites.Site as stored
use Rattle.omf_place.specs.inside.Sites.{site, sites_view}
use Rattle.omf_place.specs.Parts.{Site}
use Rattle.omf_place.specs.inside.Ranks.{rank}
use Rattle.omf_place.specs.Placed.{greatest, members, leads, alignment_of}
use Rattle.omf_place.specs.inside.Keys.{segment_place}
use Rattle.omf_place.specs.inside.Numbered.{IsNumberedFrom}
use Rattle.omf_place.specs.inside.Greatest.{HoldsGreatest, greatest_at}
use Rattle.omf_place.specs.inside.Walk.{measured, unit_measure, settled, settled_at, settled_by}
use Rattle.omf_place.proofs.CombinedParts.{places_within, place_within, greatest_combined}
use Rattle.omf_place.proofs.GreatestAt.{All-at}
use Rattle.omf_place.specs.inside.Placing.{is_common}
use Rattle.omf_place.proofs.Leaders.{position_at}
use Rattle.omf_place.proofs.PartRanks.{get_map_site}
use Rattle.omf_place.proofs.Walks.{All-map, numbered_found}

pub All-site : (P : Site → Type 0) (sites : List stored.Site) (i : ℕ) (d : stored.Site)
    → AllByRecursion P (sites_view sites) → i < length sites → P (site (get_or sites i d))
All-site P [] i d ps h = absurd (omega arith)
All-site P (x ∷ xs) zero d ps h = ps.0
All-site P (x ∷ xs) (suc i) d ps h = All-site P xs i d ps.1 (omega arith)

pub map_site-more : {Y : Type 0} (f : Site → Y) (sites : List stored.Site) (i : ℕ) (d : stored.Site) (done : List Y)
    (y : Y) → i < length sites →
    done ≡ map f (sites_view (take i sites)) → y ≡ f (site (get_or sites i d)) →
    done ++ y ∷ [] ≡ map f (sites_view (take (i + 1) sites))
map_site-more f sites i d done y h was is = rw (take_more sites i d h, map-append, map-append, was, is) refl

pub position_is : (sites : List stored.Site) → IsNumberedFrom 0 (sites_view sites) → (i : ℕ) (d : stored.Site)
    → i < length sites → (site (get_or sites i d)).position ≡ i
position_is sites numbered i d h =
    let at : slice_get (sites_view sites) i ≡ Some (site (get_or sites i d)) =
    slice_get-map site sites i ∙ ap (option_map site) (slice_get-get_or sites i d h) in
    let e = position_at 0 (sites_view sites) i (site (get_or sites i d)) numbered at in omega (arith, e)

module _ (sites : List stored.Site) (places : List ℕ) (numbered : IsNumberedFrom 0 (sites_view sites))
    (are : places ≡ map (segment_place (sites_view sites)) (sites_view sites)) where
  pub places_inside : AllByRecursion (λ first. first < length places) places
  places_inside =
      subst (λ ps. AllByRecursion (λ first. first < length ps) ps) (sym are) (places_within (sites_view sites) numbered)

  pub places_length : length places ≡ length sites
  places_length =
      ap length are ∙ length-map (sites_view sites) (segment_place (sites_view sites)) ∙ length-map sites site

  pub place_inside : (i : ℕ) → i < length sites → get_or places i 0 < length sites
  place_inside i h =
      let e = places_length in
      let w : get_or places i 0 < length places =
      All-at (λ first. first < length places) places i 0 places_inside (omega (arith, e)) in
      omega (arith, e, w)

  pub place_is : (i : ℕ) (d : stored.Site) → i < length sites
      → get_or places i 0 ≡ segment_place (sites_view sites) (site (get_or sites i d))
  place_is i d h = ap (λ ps. get_or ps i 0) are ∙ get_map_site (segment_place (sites_view sites)) sites i d h

  pub held : (f : Site → ℕ) (table : List ℕ) → HoldsGreatest (sites_view sites) f table → (i : ℕ) (d : stored.Site) →
      i < length sites →
      get_or table (get_or places i 0) 0 ≡ greatest f (members (sites_view sites) (site (get_or sites i d)))
  held f table holds i d h =
      ap (λ p. get_or table p 0) (place_is i d h)
      ∙ All-site (λ a. get_or table (rank (sites_view sites) a).segment 0 ≡ greatest f (members (sites_view sites) a))
      sites i d holds h

  pub leads_is : (i : ℕ) (d : stored.Site) → i < length sites
      → nat_eq (get_or places i 0) i ≡ leads (sites_view sites) (site (get_or sites i d))
  leads_is i d h =
      ap (λ p. nat_eq p i) (place_is i d h)
      ∙ ap (λ q. nat_eq (rank (sites_view sites) (site (get_or sites i d))).segment q)
      (sym (position_is sites numbered i d h))

  -- what `greatest_by_first` gives of the sites' own values
  pub holds : (f : Site → ℕ) (values table : List ℕ) → values ≡ map f (sites_view sites) →
      ((k : ℕ) → k < length places → get_or table k 0 ≡ greatest_at places values k) →
      HoldsGreatest (sites_view sites) f table
  holds f values table of each =
      let ss = sites_view sites in
      All-map (λ a. slice_get ss a.position ≡ Some a)
      (λ a. get_or table (rank ss a).segment 0 ≡ greatest f (members ss a)) ss
      (λ a ha.
      let within : segment_place ss a < length places =
      omega (arith, places_length, length-map sites site, place_within ss numbered a ha) in
      each (segment_place ss a) within ∙ ap (λ ps. greatest_at ps values (segment_place ss a)) are
      ∙ ap (λ vs. greatest_at (map (segment_place ss) ss) vs (segment_place ss a)) of
      ∙ greatest_combined ss numbered f a ha)
      (numbered_found ss numbered)

  pub measure_is : (alignments lengths : List ℕ) →
      HoldsGreatest (sites_view sites) (λ a. alignment_of a.segment.standing) alignments →
      HoldsGreatest (sites_view sites) (λ a. a.segment.length) lengths →
      (i : ℕ) (d : stored.Site) → i < length sites →
      measured (site (get_or sites i d)) (nat_eq (get_or places i 0) i) (get_or alignments (get_or places i 0) 0)
      (get_or lengths (get_or places i 0) 0) ≡ unit_measure (sites_view sites) (site (get_or sites i d))
  measure_is alignments lengths ha hl i d h =
      rw (
        leads_is i d h,
        held (λ a. alignment_of a.segment.standing) alignments ha i d h,
        held (λ a. a.segment.length)
            lengths hl i d h,
      ) refl

pub map_at : {Y : Type 0} (f : Site → Y) (sites : List stored.Site) (i : ℕ) (y : Y) (d : stored.Site) → i < length sites
    → get_or (map f (sites_view sites)) i y ≡ f (site (get_or sites i d))
map_at f [] i y d h = absurd (omega arith)
map_at f (x ∷ xs) zero y d h = refl
map_at f (x ∷ xs) (suc i) y d h = map_at f xs i y d (omega arith)

-- a unit's address, or that of the first part of its common segment
settled_cases : (ss : List Site) (A : List ℕ) (a : Site) (st : Standing)
    → settled_by a (get_or A a.position 0) (get_or A (segment_place ss a) 0) st ≡ settled_at ss A a st
settled_cases ss A a (Absolute frame offset) = refl
settled_cases ss A a (Relocatable alignment kind) =
    elim (is_common a) as (λ b.
    cond b (get_or A (segment_place ss a) 0) (get_or A a.position 0)
    ≡ cond (not b || leads ss a) (get_or A a.position 0) (get_or A (segment_place ss a) 0)) [
      | false ↦ refl
      | true ↦
          (elim (leads ss a) as (λ l.
          leads ss a ≡ l
          → get_or A (segment_place ss a) 0 ≡ cond l (get_or A a.position 0) (get_or A (segment_place ss a) 0)) [
            | true ↦ λ e. let p : segment_place ss a ≡ a.position = eqb-true _ _ e in ap (λ k. get_or A k 0) p
            | false ↦ λ e. refl
          ]) refl
    ]

pub settled_is : (sites : List stored.Site) (places A : List ℕ) → IsNumberedFrom 0 (sites_view sites) →
    places ≡ map (segment_place (sites_view sites)) (sites_view sites) → (i : ℕ) (d : stored.Site) → i < length sites →
    settled_by (site (get_or sites i d)) (get_or A i 0) (get_or A (get_or places i 0) 0)
    (get_or sites i d).segment.standing ≡ settled (sites_view sites) A (site (get_or sites i d))
settled_is sites places A numbered are i d h =
    let a = site (get_or sites i d) in
    let st = (get_or sites i d).segment.standing in
    ap (λ k. settled_by a (get_or A k 0) (get_or A (get_or places i 0) 0) st) (sym (position_is sites numbered i d h))
    ∙ ap (λ k. settled_by a (get_or A a.position 0) (get_or A k 0) st) (place_is sites places numbered are i d h)
    ∙ settled_cases (sites_view sites) A a st
