-- One module more among the inputs.
use Rattle.std.proofs.Common.{◌≡◌, ℕ, ◌+◌, ◌≤◌, List, [], ◌∷◌, ◌++◌, map, length, take, drop, Some, slice_get, refl, ap}
use Rattle.std.proofs.Common.{sym, ◌∙◌, arith}
use Rattle.std.proofs.lemmas.List.{length-map}
use Rattle.omf_module.specs.Module.{Module}
use Rattle.omf_place.specs.declared.sites.Site as stored
use Rattle.omf_place.specs.declared.stands.Stand.{Stand}
use Rattle.omf_place.specs.Parts.{Input, inputs_from}
use Rattle.omf_place.specs.inside.Program.{addresses_of, AreStands}
use Rattle.omf_place.specs.Parts.{module_sites, sites}
use Rattle.omf_place.specs.inside.Sites.{site, sites_view}
use Rattle.omf_place.specs.inside.Stands.{stand_of}
use Rattle.omf_place.proofs.InputLists.{start_of, inputs-more, row_from, map_take, map_drop, stays_within}

module _ (ss : List stored.Site) (stands : List Stand) (ms : List Module) (same : sites_view ss ≡ sites ms)
    (are : AreStands (sites_view ss) stands)
    (k : ℕ) (m : Module) (at : slice_get ms k ≡ Some m) (start count : ℕ) (begins : start ≡ start_of k ms)
    (counts : count ≡ length m.segments) where
  pub sites_inside : start + count ≤ length ss
  sites_inside =
      let h = stays_within k ms m at start count begins counts in
      let e = sym (length-map ss site) ∙ ap length same in omega (arith, h, e)

  pub stands_inside : start + count ≤ length stands
  stands_inside =
      let h = sites_inside in
      let e =
      ap length are ∙ length-map (sites_view ss) (stand_of (sites_view ss) (addresses_of stands))
      ∙ length-map ss site in omega (arith, h, e)

  pub row_view : (row : List stored.Site) → row ≡ take count (drop start ss)
      → sites_view row ≡ module_sites start k 0 m.segments
  row_view row e =
      ap sites_view e ∙ map_take site count (drop start ss)
      ∙ ap (λ xs. take count xs) (map_drop site start ss ∙ ap (λ xs. drop start xs) same)
      ∙ row_from k ms m at start count begins counts

  pub row_stands : (row : List stored.Site) (own : List Stand) → row ≡ take count (drop start ss)
      → own ≡ take count (drop start stands)
      → own ≡ map (stand_of (sites_view ss) (addresses_of stands)) (sites_view row)
  row_stands row own e f =
      let g = stand_of (sites_view ss) (addresses_of stands) in
      f ∙ ap (λ xs. take count (drop start xs)) are
      ∙ ap (λ xs. take count xs)
      (sym (map_drop g start (sites_view ss)) ∙ ap (λ xs. map g xs) (sym (map_drop site start ss)))
      ∙ sym (map_take g count (sites_view (drop start ss)))
      ∙ ap (λ xs. map g xs) (sym (map_take site count (drop start ss))) ∙ ap (λ xs. map g (sites_view xs)) (sym e)

  pub made-more : (done : List Input) (x : Input) → done ≡ inputs_from 0 0 (take k ms) →
      x ≡ record { input = k; says = m; sites = module_sites start k 0 m.segments } →
      done ++ x ∷ [] ≡ inputs_from 0 0 (take (k + 1) ms)
  made-more done x was is = rw (was, is, inputs-more k ms m start at begins) refl
