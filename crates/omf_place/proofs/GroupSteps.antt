-- Groups by name, one GRPDEF after the other.
use Rattle.std.proofs.Common.{◌≡◌, ℕ, ◌+◌, ◌<◌, Bool, true, false, cond, List, [], ◌∷◌, ◌++◌, filter, find, map, length}
use Rattle.std.proofs.Common.{take, get_or, slice_get, Option, Some, None, refl, ap, sym, ◌∙◌, arith}
use Rattle.std.proofs.lemmas.Grind.{flat_map-append}
use Rattle.std.proofs.lemmas.List.{append-nil, length-map, take_more}
use Rattle.std.proofs.lemmas.List.Elements.{filter-append}
use Rattle.std.proofs.lemmas.List.Folds.{find-append}
use Rattle.std.proofs.lemmas.Option.{slice_get-map, slice_get-get_or}
use Rattle.std.proofs.lemmas.Slice.Eq.{bytes_eq-Decides}
use Rattle.std.specs.Cmp.Lexicographic.{nat_list_eq_equiv}
use Rattle.std.specs.List.{flat_map}
use Rattle.std.specs.Option.{option_map, option_and_then, option_or}
use Rattle.std.specs.Str.{bytes_eq}
use Rattle.omf_module.specs.Module.{Module}
use Rattle.omf_place.specs.declared.groups.GroupEntry.{GroupEntry}
use Rattle.omf_place.specs.declared.groups.Grpdef as held
use Rattle.omf_place.specs.declared.groups.Reach.{Reach}
use Rattle.omf_place.specs.inside.Groups.{GroupReach, entry_in, entry_with, grpdef_view, join, reach_of_span, reached}
use Rattle.omf_place.specs.Parts.{Site, sites}
use Rattle.omf_place.specs.Tables.{Grpdef, frame_of_group, group_span, grpdefs, span}
use Rattle.omf_place.specs.inside.Steps.{placed_group}
use Rattle.omf_place.proofs.LinkGroups.{join_reaches, span-append}

abbrev same : List ℕ → Grpdef → Bool
same q g = bytes_eq q g.name

abbrev sites_in : List Grpdef → List Site
sites_in gs = flat_map (λ (g : Grpdef). g.sites) gs

none-filtered : {X : Type 0} (p : X → Bool) (xs : List X) → find p xs ≡ None → filter p xs ≡ []
none-filtered p [] e = refl
none-filtered p (x ∷ xs) e =
    (elim (p x) as (λ b. cond b (Some x) (find p xs) ≡ None → cond b (x ∷ filter p xs) (filter p xs) ≡ [])
    [ true ↦ λ n. cc | false ↦ λ n. none-filtered p xs n ]) e

abbrev entry_at : Option Reach → Grpdef → GroupEntry
entry_at r f = record { reach = r; input = f.input; group = f.group }

module _ (ss : List Site) (A : List ℕ) where
  reach-append : (xs ys : List Site)
      → option_map reach_of_span (span ss A (xs ++ ys))
      ≡ join (option_map reach_of_span (span ss A xs)) (option_map reach_of_span (span ss A ys))
  reach-append xs ys =
      ap (λ s. option_map reach_of_span s) (span-append ss A xs ys) ∙ sym (join_reaches (span ss A xs) (span ss A ys))

  -- where the GRPDEF before is the first, or there is none
  entry-joined : (xs : List Grpdef) (g : Grpdef) (o : Option Grpdef) → (o ≡ None → xs ≡ []) →
      option_map (entry_at (option_map reach_of_span (span ss A (sites_in (xs ++ g ∷ []))))) (option_or o (Some g))
      ≡ Some
      (entry_with (option_map (entry_at (option_map reach_of_span (span ss A (sites_in xs)))) o) (reached ss A g))
  entry-joined xs g None none = rw (none refl, append-nil) refl
  entry-joined xs g (Some f) none =
      ap (λ r. Some (entry_at r f))
      (ap (λ as'. option_map reach_of_span (span ss A as')) (flat_map-append (λ (h : Grpdef). h.sites) xs (g ∷ []))
      ∙ reach-append (sites_in xs) (g.sites ++ [])
      ∙ ap (λ as'. join (option_map reach_of_span (span ss A (sites_in xs))) (option_map reach_of_span (span ss A as')))
      (append-nil g.sites))

  entry-more : (gs : List Grpdef) (g : Grpdef) (q : List ℕ) →
      entry_in ss A (gs ++ g ∷ []) q
      ≡ cond (bytes_eq q g.name) (Some (entry_with (entry_in ss A gs q) (reached ss A g))) (entry_in ss A gs q)
  entry-more gs g q =
      ap (λ xs.
      option_map (entry_at (option_map reach_of_span (span ss A (sites_in xs)))) (find (same q) (gs ++ g ∷ [])))
      (filter-append (same q) gs (g ∷ []))
      ∙ ap
      (λ o.
      option_map
      (entry_at (option_map reach_of_span (span ss A (sites_in (filter (same q) gs ++ filter (same q) (g ∷ [])))))) o)
      (find-append (same q) gs (g ∷ []))
      ∙ (elim (bytes_eq q g.name) as (λ b.
      option_map (entry_at (option_map reach_of_span (span ss A (sites_in (filter (same q) gs ++ cond b (g ∷ []) [])))))
      (option_or (find (same q) gs) (cond b (Some g) None))
      ≡ cond b (Some (entry_with (entry_in ss A gs q) (reached ss A g))) (entry_in ss A gs q)) [
        | true ↦ entry-joined (filter (same q) gs) g (find (same q) gs) (none-filtered (same q) gs)
        | false ↦
            rw append-nil
            ((elim (find (same q) gs) as (λ o.
            option_map (entry_at (option_map reach_of_span (span ss A (sites_in (filter (same q) gs)))))
            (option_or o None)
            ≡ option_map (entry_at (option_map reach_of_span (span ss A (sites_in (filter (same q) gs))))) o) [
              | None ↦ refl
              | Some f ↦ refl
            ]))
      ])

  module _ (gs : List held.Grpdef) (ds : List Grpdef) (are : map grpdef_view gs ≡ map (reached ss A) ds) where
    pub as-many : length ds ≡ length gs
    as-many = sym (length-map ds (reached ss A)) ∙ ap length (sym are) ∙ length-map gs grpdef_view

    -- the GRPDEF that the code holds at an index
    module _ (i : ℕ) (d : held.Grpdef) (h : i < length gs) where
      none : Grpdef
      none = record { input = 0; group = 0; name = []; sites = [] }

      pub at : Grpdef
      at = get_or ds i none

      within : i < length ds
      within = omega (arith, as-many)

      pub found : slice_get ds i ≡ Some at
      unfolding at
      found = slice_get-get_or ds i none within

      pub viewed : grpdef_view (get_or gs i d) ≡ reached ss A at
      viewed =
          let f : slice_get (map grpdef_view gs) i ≡ Some (grpdef_view (get_or gs i d)) =
          slice_get-map grpdef_view gs i ∙ ap (option_map grpdef_view) (slice_get-get_or gs i d h) in
          let e : slice_get (map (reached ss A) ds) i ≡ Some (reached ss A at) =
          slice_get-map (reached ss A) ds i ∙ ap (option_map (reached ss A)) found in
          let both : Some (grpdef_view (get_or gs i d)) ≡ Some (reached ss A at) =
          sym f ∙ ap (λ xs. slice_get xs i) are ∙ e in cc

      pub taken : take (i + 1) ds ≡ take i ds ++ at ∷ []
      unfolding at
      taken = take_more ds i none within

      pub groups-more : (old new : List ℕ → Option GroupEntry) → ((q : List ℕ) → old q ≡ entry_in ss A (take i ds) q) →
          ((q : List ℕ) →
          new q
          ≡ cond (bytes_eq (get_or gs i d).name.now q)
          (Some (entry_with (old (get_or gs i d).name.now) (grpdef_view (get_or gs i d)))) (old q)) →
          (q : List ℕ) → new q ≡ entry_in ss A (take (i + 1) ds) q
      groups-more old new was put q =
          let name = (get_or gs i d).name.now in
          let is : name ≡ at.name = ap (λ (v : GroupReach). v.name) viewed in
          put q
          ∙ (elim (bytes_eq name q) as (λ b.
          bytes_eq name q ≡ b
          → cond b (Some (entry_with (old name) (grpdef_view (get_or gs i d)))) (old q)
          ≡ cond b (Some (entry_with (entry_in ss A (take i ds) q) (reached ss A at))) (entry_in ss A (take i ds) q)) [
            | true ↦ λ t.
                let e : name ≡ q = (bytes_eq-Decides name q).0 t in
                ap (λ v. Some (entry_with (old name) v)) viewed
                ∙ ap (λ n. Some (entry_with (old n) (reached ss A at))) e
                ∙ ap (λ o. Some (entry_with o (reached ss A at))) (was q)
            | false ↦ λ t. was q
          ]) refl
          ∙ ap
          (λ b.
          cond b (Some (entry_with (entry_in ss A (take i ds) q) (reached ss A at))) (entry_in ss A (take i ds) q))
          (nat_list_eq_equiv.symm name q ∙ ap (λ n. bytes_eq q n) is)
          ∙ sym (ap (λ xs. entry_in ss A xs q) taken ∙ entry-more (take i ds) at q)

-- look-ups of a name
module _ (program : List Module) (A : List ℕ) (q : List ℕ) where
  abbrev entry : Option GroupEntry
  entry = entry_in (sites program) A (grpdefs program) q

  reach_from : (gs : List Grpdef)
      → option_and_then (λ (e : GroupEntry). e.reach) (entry_in (sites program) A gs q)
      ≡ option_map reach_of_span (span (sites program) A (sites_in (filter (same q) gs)))
  reach_from [] = refl
  reach_from (g ∷ gs) =
      elim (bytes_eq q g.name) as (λ b.
      option_and_then (λ (e : GroupEntry). e.reach)
      (option_map
      (entry_at
      (option_map reach_of_span
      (span (sites program) A (sites_in (cond b (g ∷ filter (same q) gs) (filter (same q) gs))))))
      (cond b (Some g) (find (same q) gs)))
      ≡ option_map reach_of_span
      (span (sites program) A (sites_in (cond b (g ∷ filter (same q) gs) (filter (same q) gs)))))
      [ true ↦ refl | false ↦ reach_from gs ]

  pub reach_is : (o : Option GroupEntry) → o ≡ entry
      → option_and_then (λ (e : GroupEntry). e.reach) o ≡ option_map reach_of_span (group_span program A q)
  reach_is o e = ap (λ x. option_and_then (λ (y : GroupEntry). y.reach) x) e ∙ reach_from (grpdefs program)

pub placed_is : (program : List Module) (A : List ℕ) (v : GroupReach) (x : Grpdef) (f : Option ℕ) →
    v ≡ reached (sites program) A x → f ≡ frame_of_group program A v.name →
    record { frame = f; input = v.input; group = v.group } ≡ placed_group program A x
placed_is program A v x f e h = rw (h, e) refl
