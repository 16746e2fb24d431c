-- Stands of segments, one site after the other.
use Rattle.std.proofs.Common.{◌≡◌, ℕ, ◌<◌, ◌≤◌, true, List, length, get_or, refl, ap, ◌∙◌, arith}
use Rattle.std.specs.List.{AllByRecursion}
use Rattle.omf_module.specs.declared.Standing.{Standing}
use Rattle.omf_module.specs.declared.Standing.TheVariants.{Absolute, Relocatable}
use Rattle.omf_place.specs.declared.sites.Site as stored
use Rattle.omf_place.specs.declared.spans.SegmentSpan.{SegmentSpan}
use Rattle.omf_place.specs.inside.Sites.{site, sites_view}
use Rattle.omf_place.specs.inside.Placing.{is_relocatable}
use Rattle.omf_place.specs.inside.Spans.{AreSpans, addresses_in, span_of}
use Rattle.omf_place.specs.declared.stands.Stand.{Stand}
use Rattle.omf_place.specs.inside.Stands.{IsFramed, StartsLow, stand_by, stand_of}
use Rattle.omf_place.proofs.Measuring.{map_at, All-site}

framed_by : (st : Standing) (s : SegmentSpan) → (is_relocatable st ≡ true → s.start ≤ 1048560) → IsFramed st s
framed_by (Absolute frame offset) s h = tt
framed_by (Relocatable alignment kind) s h = h refl

module _ (sites : List stored.Site) (spans : List SegmentSpan) (are : AreSpans (sites_view sites) spans) (i : ℕ)
    (ds : stored.Site) (dp : SegmentSpan) (h : i < length sites) where
  pub span_here : get_or spans i dp ≡ span_of (sites_view sites) (addresses_in spans) (site (get_or sites i ds))
  span_here = ap (λ xs. get_or xs i dp) are ∙ map_at (span_of (sites_view sites) (addresses_in spans)) sites i dp ds h

  pub framed_here : AllByRecursion (StartsLow (sites_view sites) (addresses_in spans)) (sites_view sites)
      → IsFramed (get_or sites i ds).segment.standing (get_or spans i dp)
  framed_here low = framed_by (get_or sites i ds).segment.standing (get_or spans i dp)
      (λ t.
      let w = All-site (StartsLow (sites_view sites) (addresses_in spans)) sites i ds low h t in
      let e = ap (λ (s : SegmentSpan). s.start) span_here in omega (arith, w, e))

  pub stand_here : (y : Stand) → y ≡ stand_by (get_or sites i ds).segment.standing (get_or spans i dp)
      → y ≡ stand_of (sites_view sites) (addresses_in spans) (site (get_or sites i ds))
  stand_here y e = e ∙ ap (λ (s : SegmentSpan). stand_by (get_or sites i ds).segment.standing s) span_here
