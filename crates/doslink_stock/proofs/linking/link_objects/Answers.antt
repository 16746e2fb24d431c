use Rattle.std.proofs.Common.{◌≡◌, ◌≤◌, ◌++◌, ◌∷◌, [], ◌∙◌, List, append-nil, append_assoc, ap, arith, drop, length, map}
use Rattle.std.proofs.Common.{refl, subst, sym}
use Rattle.std.proofs.Math.ListN.{drop_of_length-le}
use Rattle.std.proofs.lemmas.List.{length-map, map-append}
use Rattle.omf_library.proofs.Gathering.{drop-one}
use Rattle.omf_search.specs.Results.{module_said, names_said}
use Rattle.omf_search.specs.Said.{Module}
use Rattle.omf_search.specs.Searching.{IsSearch}
use Rattle.doslink_stock.specs.declared.searching.Place.{Place}
use Rattle.doslink_stock.specs.declared.stock.Entry.{Entry}
use Rattle.doslink_stock.specs.declared.searching.Place.TheVariants.{Object}
use Rattle.doslink_stock.specs.inside.Linked.{AreLinked}
use Rattle.doslink_stock.specs.Placed.{ArePlaced}
use Rattle.doslink_stock.specs.Search.{TakenFor, object_taken, says_of}
use Rattle.doslink_stock.specs.Seen.{entry_held}
use Rattle.doslink_stock.proofs.Places.{got-at, placed-length, placed-push}
use Rattle.doslink_stock.proofs.linking.link_objects.Goals as goal

pub loop-index-init : goal.loop-index-init
loop-index-init g c = λ names members bs taken is. (
  [],
  subst
      (λ (l : List TakenFor). AreLinked names (map entry_held c.args.objects.now) members bs l c.args.search.now
      c.args.linked.now.items)
      (sym (append-nil taken)) is,
  refl,
)

pub loop-index-preserved : goal.loop-index-preserved
loop-index-preserved g c = λ names members bs taken is.
    let (done, so_far, left) = c.loop-index.invariant names members bs taken is in
    let objects = map entry_held c.args.objects.now in
    let i = c.loop-index.index in
    let entry = c.index-objects-index.result in
    let t : TakenFor = object_taken (entry_held entry) in
    let before = taken ++ done in
    let places = placed-length objects members c.loop-index.linked.items before so_far.placed in
    let says = length-map before (λ (x : TakenFor). x.held.says) in
    let joins : (taken ++ done) ++ t ∷ [] ≡ taken ++ (done ++ t ∷ []) = append_assoc taken done (t ∷ []) in
    let said : says_of (before ++ t ∷ []) ≡ says_of before ++ module_said c.of.result ∷ [] =
    map-append (λ (x : TakenFor). x.held.says) before (t ∷ [])
    ∙ ap (λ (m : Module). says_of before ++ m ∷ [])
    (ap (λ (e : Entry g.row.A.Denot). names_said e.says) c.index-objects-index.is ∙ sym c.of.ensures) in
    let linked : AreLinked names objects members bs (before ++ t ∷ []) c.add_module.new.self c.push.new.self.items =
    record {
      searched =
          subst (λ (ms : List Module). IsSearch names ms bs c.add_module.new.self) (sym said)
          (c.in_ok-add_module.ensures names (says_of before) bs
          (omega (arith, says, places, c.len.ensures, c.loop-index.linked.ok.0)) so_far.searched);
      placed =
          subst (λ (ps : List Place). ArePlaced objects members ps (before ++ t ∷ [])) (sym c.in_ok-push.ensures.items)
          (placed-push objects members c.loop-index.linked.items before (Object i) t so_far.placed
          (got-at entry_held c.args.objects.now i entry c.loop-index-test.true c.index-objects-index.is, refl));
    } in (
      done ++ t ∷ [],
      subst
          (λ (l : List TakenFor). AreLinked names objects members bs l c.add_module.new.self c.push.new.self.items) joins
          linked,
      append_assoc done (t ∷ []) _
          ∙ ap (λ l. done ++ map object_taken (map entry_held l))
          (sym (drop-one c.args.objects.now i entry c.loop-index-test.true c.index-objects-index.is)) ∙ left,
    )

pub returns : goal.returns
returns g c = λ names members bs taken is.
    let (done, so_far, left) = c.loop-index.invariant names members bs taken is in
    let past : length c.args.objects.now ≤ c.loop-index.index = omega arith in
    let all : done ≡ map object_taken (map entry_held (drop c.args.first c.args.objects.now)) =
    sym (append-nil done)
    ∙ ap (λ l. done ++ map object_taken (map entry_held l)) (sym (drop_of_length-le c.args.objects.now past)) ∙ left in
    subst
    (λ (l : List TakenFor). AreLinked names (map entry_held c.args.objects.now) members bs (taken ++ l)
    c.loop-index.search c.loop-index.linked.items) all so_far
