-- Spans of combined segments, one site after the other.
use Rattle.std.proofs.Common.{◌≡◌, ℕ, ◌+◌, ◌<◌, List, [], ◌∷◌, ◌++◌, map, length, take, get_or, refl, ap, sym, ◌∙◌}
use Rattle.std.proofs.Common.{arith}
use Rattle.std.proofs.Common.{Bool, true, false, cond, ◌&&◌, ◌*◌, ◌/◌, ◌^◌, nat_eq, nat_lt, ◌≤◌, Some, find, filter}
use Rattle.std.proofs.Common.{slice_get, subst, add-one}
use Rattle.std.proofs.lemmas.List.{length-map, map-append}
use Rattle.std.proofs.lemmas.Option.{slice_get_within}
use Rattle.std.specs.Borrow.{Bor}
use Rattle.std.specs.List.{AllByRecursion}
use Rattle.omf_place.specs.declared.greatest.Asked.TheVariants.{End}
use Rattle.omf_place.specs.declared.sites.Site as stored
use Rattle.omf_place.specs.declared.order.Rank.{Rank}
use Rattle.omf_place.specs.Parts.{placement_order}
use Rattle.omf_place.specs.inside.Ranks.{rank}
use Rattle.omf_place.specs.Placed.{leads}
use Rattle.omf_place.specs.inside.Small.{IsSmall}
use Rattle.omf_place.specs.inside.Spans.{AreSpans, addresses_in}
use Rattle.omf_place.specs.inside.Steps.{is_long_segment}
use Rattle.omf_place.proofs.Measuring.{map_at}
use Rattle.omf_place.proofs.SiteLists.{take-all}
use Rattle.omf_place.proofs.Walks.{filter-push, met, met-within_at, met-leads, take-push}
use Rattle.std.proofs.Common.{eq-eqb}
use Rattle.std.proofs.lemmas.Bool.{eqb-true}
use Rattle.omf_place.specs.declared.layout.Combined.{Combined}
use Rattle.omf_place.specs.Tables.{combined_segment}
use Rattle.omf_place.specs.declared.spans.SegmentSpan.{SegmentSpan}
use Rattle.omf_place.specs.inside.Sites.{site, sites_view}
use Rattle.omf_place.specs.Parts.{Site}
use Rattle.omf_place.specs.Placed.{address_of}
use Rattle.omf_place.specs.inside.Keys.{segment_place}
use Rattle.omf_place.specs.inside.Numbered.{IsNumberedFrom}
use Rattle.omf_place.specs.inside.Spans.{span_of}
use Rattle.omf_place.specs.inside.Greatest.{CanAnswer, HoldsGreatest}
use Rattle.omf_place.proofs.GreatestAt.{All-at}
use Rattle.omf_place.proofs.Measuring.{places_inside, places_length, place_is, held, map_site-more, position_is}
use Rattle.omf_place.proofs.Walks.{All-map, no_site, numbered_found}

abbrev span_at : ℕ → ℕ → ℕ → SegmentSpan
span_at a s e = record { address = a; start = s; end = e }

abbrev pub own_end : List ℕ → Site → ℕ
own_end A b = address_of A b + b.segment.length

-- the end of each site may be asked
pub ends-asked : (ss : List Site) (A : Bor (List ℕ)) → IsNumberedFrom 0 ss → length A.now ≡ length ss → IsSmall A.now
    → AllByRecursion (CanAnswer (End A)) ss
ends-asked ss A numbered e small =
    All-map (λ a. slice_get ss a.position ≡ Some a) (CanAnswer (End A)) ss
    (λ a at. (let w = slice_get_within ss a.position a at in omega (arith, w, e), small a.position))
    (numbered_found ss numbered)

spans_are : (a s e b t f : ℕ) → a ≡ b → s ≡ t → e ≡ f → span_at a s e ≡ span_at b t f
spans_are a s e b t f p q r = cc

module _ (sites : List stored.Site) (places A ends : List ℕ) (numbered : IsNumberedFrom 0 (sites_view sites))
    (are : places ≡ map (segment_place (sites_view sites)) (sites_view sites)) where
  pub inside_table : (i : ℕ) → i < length places → get_or places i 0 < length sites
  inside_table i h =
      let w : get_or places i 0 < length places =
      All-at (λ first. first < length places) places i 0 (places_inside sites places numbered are) h in
      omega (arith, places_length sites places numbered are)

  pub gathered-more : HoldsGreatest (sites_view sites) (own_end A) ends → (i : ℕ) (done : List SegmentSpan) →
      i < length places →
      done ≡ map (span_of (sites_view sites) A) (sites_view (take i sites)) →
      done
      ++ record {
        address = get_or A i 0;
        start = get_or A (get_or places i 0) 0;
        end = get_or ends (get_or places i 0) 0;
      } ∷ [] ≡ map (span_of (sites_view sites) A) (sites_view (take (i + 1) sites))
  gathered-more holds i done h was =
      let hs : i < length sites = omega (arith, places_length sites places numbered are) in
      map_site-more (span_of (sites_view sites) A) sites i no_site done (record {
        address = get_or A i 0;
        start = get_or A (get_or places i 0) 0;
        end = get_or ends (get_or places i 0) 0;
      }) hs was
      (spans_are _ _ _ _ _ _ (ap (λ k. get_or A k 0) (sym (position_is sites numbered i no_site hs)))
      (ap (λ k. get_or A k 0) (place_is sites places numbered are i no_site hs))
      (held sites places numbered are (own_end A) ends holds i no_site hs))

-- what a walk in the order of placement meets at k
module _ (sites : List stored.Site) (ranks : List Rank) (k : ℕ) (dr : Rank) (ds : stored.Site)
    (spans : List SegmentSpan) (dp : SegmentSpan)
    (order : ranks ≡ map (rank (sites_view sites)) (placement_order (sites_view sites)))
    (numbered : IsNumberedFrom 0 (sites_view sites)) (h : k < length ranks)
    (are : AreSpans (sites_view sites) spans) where
  abbrev pub met_site : Site
  met_site = site (get_or sites (get_or ranks k dr).own ds)

  pub met_span : get_or spans (get_or ranks k dr).own dp ≡ span_of (sites_view sites) (addresses_in spans) met_site
  met_span =
      ap (λ xs. get_or xs (get_or ranks k dr).own dp) are
      ∙ map_at (span_of (sites_view sites) (addresses_in spans)) sites (get_or ranks k dr).own dp ds
      (met-within_at sites ranks k dr ds order numbered h)

  pub spans_inside : (get_or ranks k dr).own < length spans
  spans_inside =
      let w = met-within_at sites ranks k dr ds order numbered h in
      let e =
      ap length are ∙ length-map (sites_view sites) (span_of (sites_view sites) (addresses_in spans))
      ∙ length-map sites site in omega (arith, w, e)

  pub met_small : IsSmall (addresses_in spans) → (get_or spans (get_or ranks k dr).own dp).start < 2 ^ 127
  met_small small =
      subst (λ (s : SegmentSpan). s.start < 2 ^ 127) (sym met_span) (small (rank (sites_view sites) met_site).segment)

  -- the test of a leader that is too long
  pub met_test : (t : Bool) →
      t ≡ nat_eq (get_or ranks k dr).segment (get_or ranks k dr).own
      && nat_lt (16 * ((get_or spans (get_or ranks k dr).own dp).start / 16) + 65536)
      (get_or spans (get_or ranks k dr).own dp).end →
      t ≡ leads (sites_view sites) met_site && is_long_segment (sites_view sites) (addresses_in spans) met_site
  met_test t e =
      e ∙ ap
      (λ b.
      b && nat_lt (16 * ((get_or spans (get_or ranks k dr).own dp).start / 16) + 65536)
      (get_or spans (get_or ranks k dr).own dp).end) (met-leads sites ranks k dr ds order numbered h)
      ∙ ap (λ (s : SegmentSpan). leads (sites_view sites) met_site && nat_lt (16 * (s.start / 16) + 65536) s.end)
      met_span

pub find-both : {X : Type 0} (p q : X → Bool) (xs : List X) → find (λ x. p x && q x) xs ≡ find q (filter p xs)
find-both p q [] = refl
find-both p q (x ∷ xs) =
    elim (p x) as (λ b.
    cond (b && q x) (Some x) (find (λ y. p y && q y) xs) ≡ find q (cond b (x ∷ filter p xs) (filter p xs))) [
      | true ↦ ap (λ o. cond (q x) (Some x) o) (find-both p q xs)
      | false ↦ find-both p q xs
    ]

-- one that passes more
pub passing-more : {X Y : Type 0} (f : X → Y) (p : X → Bool) (os : List X) (k : ℕ) (u : X) (done : List Y) (y : Y) →
    slice_get os k ≡ Some u → p u ≡ true → y ≡ f u →
    done ≡ map f (filter p (take k os)) → done ++ y ∷ [] ≡ map f (filter p (take (k + 1) os))
passing-more f p os k u done y at t is was =
    let e : filter p (take (k + 1) os) ≡ filter p (take k os) ++ u ∷ [] =
    rw (add-one, take-push os k u at, filter-push, t) refl in
    rw (e, map-append, was, is) refl

pub passing-kept : {X Y : Type 0} (f : X → Y) (p : X → Bool) (os : List X) (k : ℕ) (u : X) (done : List Y) →
    slice_get os k ≡ Some u → p u ≡ false →
    done ≡ map f (filter p (take k os)) → done ≡ map f (filter p (take (k + 1) os))
passing-kept f p os k u done at t was =
    let e : filter p (take (k + 1) os) ≡ filter p (take k os) =
    rw (add-one, take-push os k u at, filter-push, t) refl in
    rw (e, was) refl

pub all-met : (ss : List Site) (ranks : List Rank) (k : ℕ) → ranks ≡ map (rank ss) (placement_order ss)
    → length ranks ≤ k → take k (placement_order ss) ≡ placement_order ss
all-met ss ranks k order h =
    take-all k (placement_order ss)
    (let e = ap length order ∙ length-map (placement_order ss) (rank ss) in omega (arith, e))

combined_of : ℕ → ℕ → SegmentSpan → Combined
combined_of i n s = record { start = s.start; end = s.end; input = i; segment = n }

module _ (sites : List stored.Site) (ranks : List Rank) (k : ℕ) (dr : Rank) (ds : stored.Site)
    (spans : List SegmentSpan) (dp : SegmentSpan)
    (order : ranks ≡ map (rank (sites_view sites)) (placement_order (sites_view sites)))
    (numbered : IsNumberedFrom 0 (sites_view sites)) (h : k < length ranks)
    (are : AreSpans (sites_view sites) spans) where
  pub met_combined : (y : Combined) →
      y ≡ record {
        start = (get_or spans (get_or ranks k dr).own dp).start;
        end = (get_or spans (get_or ranks k dr).own dp).end;
        input = (get_or sites (get_or ranks k dr).own ds).input;
        segment = (get_or sites (get_or ranks k dr).own ds).number;
      } →
      y ≡ combined_segment (sites_view sites) (addresses_in spans)
      (met_site sites ranks k dr ds spans dp order numbered h are)
  unfolding combined_of
  met_combined y e =
      e ∙ ap
      (λ s.
      combined_of (get_or sites (get_or ranks k dr).own ds).input (get_or sites (get_or ranks k dr).own ds).number s)
      (met_span sites ranks k dr ds spans dp order numbered h are)

  pub combined-added : (done : List Combined) (y : Combined) → (get_or ranks k dr).segment ≡ (get_or ranks k dr).own →
      y ≡ record {
        start = (get_or spans (get_or ranks k dr).own dp).start;
        end = (get_or spans (get_or ranks k dr).own dp).end;
        input = (get_or sites (get_or ranks k dr).own ds).input;
        segment = (get_or sites (get_or ranks k dr).own ds).number;
      } →
      done
      ≡ map (combined_segment (sites_view sites) (addresses_in spans))
      (filter (leads (sites_view sites)) (take k (placement_order (sites_view sites)))) →
      done ++ y ∷ []
      ≡ map (combined_segment (sites_view sites) (addresses_in spans))
      (filter (leads (sites_view sites)) (take (k + 1) (placement_order (sites_view sites))))
  combined-added done y t e was =
      passing-more (combined_segment (sites_view sites) (addresses_in spans)) (leads (sites_view sites))
      (placement_order (sites_view sites)) k (met_site sites ranks k dr ds spans dp order numbered h are) done y
      (met sites ranks k dr ds order numbered h) (sym (met-leads sites ranks k dr ds order numbered h) ∙ eq-eqb _ _ t)
      (met_combined y e) was

  pub combined-kept : (done : List Combined) → ((get_or ranks k dr).segment ≡ (get_or ranks k dr).own → ⊥) →
      done
      ≡ map (combined_segment (sites_view sites) (addresses_in spans))
      (filter (leads (sites_view sites)) (take k (placement_order (sites_view sites)))) →
      done
      ≡ map (combined_segment (sites_view sites) (addresses_in spans))
      (filter (leads (sites_view sites)) (take (k + 1) (placement_order (sites_view sites))))
  combined-kept done f was =
      let t : nat_eq (get_or ranks k dr).segment (get_or ranks k dr).own ≡ false =
      (elim (nat_eq (get_or ranks k dr).segment (get_or ranks k dr).own) as (λ b.
      nat_eq (get_or ranks k dr).segment (get_or ranks k dr).own ≡ b → b ≡ false) [
        | true ↦ λ e. absurd (f (eqb-true _ _ e))
        | false ↦ λ e. refl
      ]) refl in
      passing-kept (combined_segment (sites_view sites) (addresses_in spans)) (leads (sites_view sites))
      (placement_order (sites_view sites)) k (met_site sites ranks k dr ds spans dp order numbered h are) done
      (met sites ranks k dr ds order numbered h) (sym (met-leads sites ranks k dr ds order numbered h) ∙ t) was
