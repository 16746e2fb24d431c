use Rattle.std.proofs.Common.{◌≡◌, ◌≤◌, ◌<◌, ◌-◌, ◌++◌, ◌∷◌, [], ◌∙◌, List, None, Option, Some, append-nil, append_assoc, ap}
use Rattle.std.proofs.Common.{arith, length, map, refl, slice_get, subst, sym}
use Rattle.std.proofs.lemmas.List.{length-map, map-append}
use Rattle.std.specs.List.{filter_map}
use Rattle.std.specs.Option.{option_map}
use Rattle.omf_search.specs.Results.{module_said}
use Rattle.omf_search.specs.Said.{Module}
use Rattle.omf_search.specs.Search as spec
use Rattle.omf_search.specs.Search.{Choice, Chooses, next_choice}
use Rattle.omf_search.specs.Searching.{IsSearch}
use Rattle.omf_search.proofs.Slack.{slack, slack-chosen, slack-most}
use Rattle.doslink_stock.specs.declared.searching.Place.{Place}
use Rattle.doslink_stock.specs.declared.searching.Place.TheVariants.{Member}
use Rattle.doslink_stock.specs.Files.{Held}
use Rattle.doslink_stock.specs.inside.Linked.{AreLinked}
use Rattle.doslink_stock.specs.Placed.{ArePlaced}
use Rattle.doslink_stock.specs.Search.{TakenFor, candidate, candidates, member_taken, says_of}
use Rattle.doslink_stock.specs.Seen.{entry_held}
use Rattle.doslink_stock.proofs.Places.{brings-nothing, candidates-at, candidates-length, filter_map-push, got-at}
use Rattle.doslink_stock.proofs.Places.{got-none, placed-length, placed-push}
use Rattle.doslink_stock.proofs.linking.take_members.Goals as goal

pub loop-left-init : goal.loop-left-init
loop-left-init g c = λ names objects taken is.
    let ms = map entry_held c.args.members.now in
    let bs = candidates ms in
    let none = append-nil taken in
    let most = slack-most names (says_of (taken ++ [])) bs in
    let len = candidates-length ms in
    let same = length-map c.args.members.now entry_held in (
      [],
      subst
          (λ (l : List TakenFor). AreLinked names objects ms bs l c.args.search.now c.args.linked.now.items) (sym none) is,
      (λ cs chooses. subst (λ (l : List TakenFor). Chooses names bs (says_of l) cs) none chooses),
      omega (arith, most, len, same),
    )

pub returns-in_default : goal.returns-in_default
returns-in_default g c = λ names objects taken is.
    let (done, so_far, chosen, less) = c.loop-left.invariant names objects taken is in
    let bs = candidates (map entry_held c.args.members.now) in (
      done,
      subst (Chooses names bs (says_of taken)) (append-nil done)
          (chosen [] (sym (c.in_default.ensures.found names _ bs so_far.searched))),
      record { searched = c.in_default.ensures.same names _ bs so_far.searched; placed = so_far.placed },
    )

pub returns-in_default-get : goal.returns-in_default-get
returns-in_default-get g c = λ names objects taken is.
    let (done, so_far, chosen, less) = c.loop-left.invariant names objects taken is in
    let ms = map entry_held c.args.members.now in
    let bs = candidates ms in
    let f = c.in-Some.found in
    let absent : slice_get bs f.member ≡ None =
    candidates-at ms f.member
    ∙ ap (option_map (λ (h : Held). candidate (f.member, h)))
    (got-none entry_held c.args.members.now f.member c.in_default-get.ensures.lookup.3) in
    let none : next_choice names bs (says_of (taken ++ filter_map (member_taken ms) done)) ≡ None =
    sym (c.in-Some.ensures.found names _ bs so_far.searched)
    ∙ ap
    (option_map (λ (b : spec.Member).
    let ch : Choice = record { wanted = record { name = f.name.now; wanted_by = f.wanted_by }; taken = b } in ch)) absent in (
      done,
      subst (Chooses names bs (says_of taken)) (append-nil done) (chosen [] none),
      record { searched = c.in-Some.ensures.same names _ bs so_far.searched; placed = so_far.placed },
    )

pub loop-left-preserved : goal.loop-left-preserved
loop-left-preserved g c = λ names objects taken is.
    let (done, so_far, chosen, less) = c.loop-left.invariant names objects taken is in
    let ms = map entry_held c.args.members.now in
    let bs = candidates ms in
    let f = c.in-Some.found in
    let held = entry_held c.in-Some-get.entry.now in
    let before : List TakenFor = taken ++ filter_map (member_taken ms) done in
    let at : slice_get ms f.member ≡ Some held =
    got-at entry_held c.args.members.now f.member c.in-Some-get.entry.now c.in-Some-get.ensures.lookup.3.0
    c.in-Some-get.ensures.lookup.1 in
    let got : slice_get bs f.member ≡ Some (candidate (f.member, held)) =
    candidates-at ms f.member ∙ ap (option_map (λ (h : Held). candidate (f.member, h))) at in
    let ch : Choice =
    record { wanted = record { name = f.name.now; wanted_by = f.wanted_by }; taken = candidate (f.member, held) } in
    let t : TakenFor = record { held = held; wanted = Some f.name.now } in
    let next : next_choice names bs (says_of before) ≡ Some ch =
    sym (c.in-Some.ensures.found names _ bs so_far.searched)
    ∙ ap
    (option_map (λ (b : spec.Member).
    let one : Choice = record { wanted = record { name = f.name.now; wanted_by = f.wanted_by }; taken = b } in one)) got in
    let takes : member_taken ms ch ≡ Some t =
    ap (option_map (λ (m : Held). let one : TakenFor = record { held = m; wanted = Some f.name.now } in one)) at in
    let joins : taken ++ filter_map (member_taken ms) (done ++ ch ∷ []) ≡ before ++ t ∷ [] =
    ap (λ l. taken ++ l) (filter_map-push (member_taken ms) done ch t takes)
    ∙ sym (append_assoc taken (filter_map (member_taken ms) done) (t ∷ [])) in
    let said : says_of (before ++ t ∷ []) ≡ says_of before ++ held.says ∷ [] =
    map-append (λ (x : TakenFor). x.held.says) before (t ∷ []) in
    let whole : says_of (taken ++ filter_map (member_taken ms) (done ++ ch ∷ [])) ≡ says_of before ++ held.says ∷ [] =
    ap says_of joins ∙ said in
    let places = placed-length objects ms c.loop-left.linked.items before so_far.placed in
    let says = length-map before (λ (x : TakenFor). x.held.says) in
    let shrinks = slack-chosen names (says_of before) bs ch next in
    let now = ap (λ (l : List Module). slack names l bs) whole in
    let linked : AreLinked names objects ms bs (before ++ t ∷ []) c.add_module.new.self c.push.new.self.items =
    record {
      searched =
          subst (λ (l : List Module). IsSearch names l bs c.add_module.new.self)
          (sym (said ∙ ap (λ (m : Module). says_of before ++ m ∷ []) (sym c.of.ensures)))
          (c.in_ok-add_module.ensures names (says_of before) bs
          (omega (arith, says, places, c.len.ensures, c.loop-left.linked.ok.0))
          (c.in-Some.ensures.same names (says_of before) bs so_far.searched));
      placed =
          subst (λ (ps : List Place). ArePlaced objects ms ps (before ++ t ∷ [])) (sym c.in_ok-push.ensures.items)
          (placed-push objects ms c.loop-left.linked.items before (Member f.member f.name) t so_far.placed (at, refl));
    } in (
      done ++ ch ∷ [],
      subst (λ (l : List TakenFor). AreLinked names objects ms bs l c.add_module.new.self c.push.new.self.items)
          (sym joins) linked,
      (λ cs chooses.
          subst (Chooses names bs (says_of taken)) (sym (append_assoc done (ch ∷ []) cs))
          (chosen (ch ∷ cs) (next, subst (λ (l : List Module). Chooses names bs l cs) whole chooses))),
      omega (arith, shrinks, now, less),
    )

pub returns : goal.returns
returns g c = λ names objects taken is.
    let (done, so_far, chosen, less) = c.loop-left.invariant names objects taken is in
    let bs = candidates (map entry_held c.args.members.now) in (
      done,
      subst (Chooses names bs (says_of taken)) (append-nil done)
          (chosen [] (brings-nothing names bs _ (omega (arith, less, c.loop-left-test.false)))),
      so_far,
    )
