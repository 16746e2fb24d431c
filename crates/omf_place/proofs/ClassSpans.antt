-- The span of a class, one site after the other.
use Rattle.std.proofs.Common.{◌≡◌, ℕ, ◌+◌, ◌<◌, ◌≤◌, Bool, true, false, cond, List, [], ◌∷◌, length, drop, get_or, filter}
use Rattle.std.proofs.Common.{fold, Option, Some, sym, ap, subst, ◌∙◌, arith}
use Rattle.std.proofs.lemmas.List.{drop_more, drop_all, get_or-map, length-map}
use Rattle.omf_place.specs.declared.sites.Site as stored
use Rattle.omf_place.specs.declared.spans.SegmentSpan.{SegmentSpan}
use Rattle.omf_module.specs.Module.{Module}
use Rattle.omf_place.specs.Parts.{Site, sites as sites_of}
use Rattle.omf_place.specs.Placed.{IsPlaced}
use Rattle.omf_place.specs.Tables.{widen, segment_start, segment_end}
use Rattle.omf_place.specs.Classes.{TellsFit, class_fits, is_of}
use Rattle.omf_place.specs.inside.Placing.{IsOnlyPlacement}
use Rattle.omf_place.specs.inside.Sites.{site, sites_view}
use Rattle.omf_place.specs.inside.Spans.{AreSpans, addresses_in, span_of}
use Rattle.omf_place.proofs.Measuring.{map_at}

module _ (sites : List stored.Site) (spans : List SegmentSpan) (class : List ℕ) where
  -- the span of one more part
  abbrev pub more : Option (ℕ × ℕ) → Site → Option (ℕ × ℕ)
  more s a = widen s (segment_start (sites_view sites) (addresses_in spans) a)
      (segment_end (sites_view sites) (addresses_in spans) a)

  -- the parts from a position on
  abbrev pub rest : ℕ → List Site
  rest i = filter (is_of class) (drop i (sites_view sites))

  -- the next site is of the class, or it isn't
  rest_at : (i : ℕ) (d : stored.Site) → i < length sites → (b : Bool) → is_of class (site (get_or sites i d)) ≡ b
      → rest i ≡ cond b (site (get_or sites i d) ∷ rest (i + 1)) (rest (i + 1))
  rest_at i d lt b e =
      let x = site (get_or sites i d) in
      let inside : i < length (sites_view sites) = omega (arith, length-map sites site) in
      ap (filter (is_of class))
      (drop_more (sites_view sites) i x inside
      ∙ ap (λ y. y ∷ drop (i + 1) (sites_view sites)) (get_or-map site sites i d x lt))
      ∙ ap (λ c. cond c (x ∷ rest (i + 1)) (rest (i + 1))) e

  pub passed : (i : ℕ) (d : stored.Site) (s : Option (ℕ × ℕ)) → i < length sites
      → is_of class (site (get_or sites i d)) ≡ false → fold more s (rest (i + 1)) ≡ fold more s (rest i)
  passed i d s lt e = ap (fold more s) (sym (rest_at i d lt false e))

  pub taken : AreSpans (sites_view sites) spans → (i : ℕ) (d : stored.Site) (dp : SegmentSpan) (s : Option (ℕ × ℕ))
      → i < length sites → is_of class (site (get_or sites i d)) ≡ true → (t : ℕ × ℕ)
      → Some t ≡ widen s (get_or spans i dp).start (get_or spans i dp).end
      → fold more (Some t) (rest (i + 1)) ≡ fold more s (rest i)
  taken are i d dp s lt e t is =
      let own : get_or spans i dp ≡ span_of (sites_view sites) (addresses_in spans) (site (get_or sites i d)) =
      ap (λ xs. get_or xs i dp) are ∙ map_at (span_of (sites_view sites) (addresses_in spans)) sites i dp d lt in
      ap (λ o. fold more o (rest (i + 1))) (is ∙ ap (λ (p : SegmentSpan). widen s p.start p.end) own)
      ∙ ap (fold more s) (sym (rest_at i d lt true e))

-- none is left behind the last
pub none_left : (sites : List stored.Site) (class : List ℕ) (i : ℕ) → length sites ≤ i
    → filter (is_of class) (drop i (sites_view sites)) ≡ []
none_left sites class i h =
    ap (filter (is_of class)) (drop_all i (sites_view sites) (omega (arith, length-map sites site)))

-- what is told at the only addresses of a program
pub told : (program : List Module) (class : List ℕ) (ss : List Site) → ss ≡ sites_of program → (A : List ℕ) (size : ℕ)
    → IsPlaced ss A size → IsOnlyPlacement ss A size → (fits : Bool) → fits ≡ class_fits ss A class
    → TellsFit program class fits
told program class ss made A size placed only fits is = (
  A,
  size,
  subst (λ xs. IsPlaced xs A size) made placed,
  subst (λ xs. IsOnlyPlacement xs A size) made only,
  is ∙ ap (λ xs. class_fits xs A class) made,
)
