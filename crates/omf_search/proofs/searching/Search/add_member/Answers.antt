use Rattle.std.proofs.Common.{◌≡◌, ◌∙◌, Some, None, ap, arith, cond, subst, sym, take}
use Rattle.std.proofs.lemmas.List.{take_all}
use Rattle.std.specs.Option.{option_or}
use Rattle.omf_place.specs.declared.names.Names.{Names}
use Rattle.omf_search.specs.Keys.{value_of}
use Rattle.omf_search.specs.Places.{place_from}
use Rattle.omf_search.specs.Results.{bytes_of, module_said}
use Rattle.omf_search.specs.Said.{Module, offers}
use Rattle.omf_search.specs.Search.{Member}
use Rattle.omf_search.specs.Searching.{HasFirst}
use Rattle.omf_search.specs.Wanted.{wanted_names}
use Rattle.omf_search.specs.inside.Back.{LooksAgain, is_open}
use Rattle.omf_search.proofs.GoingBack.{first-member, first-none}
use Rattle.omf_search.proofs.Placing.{place_from-push}
use Rattle.omf_search.proofs.Results.{OnOk-map}
use Rattle.omf_search.proofs.TakenSteps.{map_more}
use Rattle.omf_search.proofs.searching.Search.add_member.Goals as goal

pub loop-offered-init : goal.loop-offered-init
loop-offered-init g c = λ names ms bs was. record {
  is = was;
  too = first-none names ms (wanted_names names ms) c.args.self.now.next c.args.self.now.back;
}

pub loop-offered-preserved : goal.loop-offered-preserved
loop-offered-preserved g c = λ names ms bs was.
    let more = c.args.says.offered.now in
    let i = c.loop-offered.offered-index in
    subst (λ ns. LooksAgain names ms bs ns c.put_back.new.self)
    (sym (map_more (λ b. b.now) more i _ c.loop-offered-test.true))
    (c.in_ok-put_back.ensures names ms bs (bytes_of (take i more)) (c.loop-offered.invariant names ms bs was))

pub returns : goal.returns
returns g c =
    let m = module_said c.args.says in
    let old = c.loop-offered.self in
    OnOk-map c.offer_each.result _ _
    (λ offered. λ names ms bs b len says was.
    let ws = wanted_names names ms in
    let looks : LooksAgain names ms bs m.offered old =
    subst (λ more. LooksAgain names ms bs (bytes_of more) old)
    (take_all c.loop-offered.offered-index c.args.says.offered.now (omega arith))
    (c.loop-offered.invariant names ms bs was) in
    let is = looks.is in
    record {
      by = is.by;
      taken = is.taken;
      places = is.places;
      offered = λ q.
          let test : Member → _ = λ (x : Member). offers names q.now x.says in
          subst
          (λ (n : Names). value_of n c.offer_each.new.offers q
          ≡ option_or (value_of n old.offers q) (cond (offers n q.now m) (Some c.args.index) None)) is.by (offered q)
          ∙ ap (λ o. option_or o (cond (offers names q.now m) (Some c.args.index) None)) (is.offered q)
          ∙ ap (λ x. option_or (place_from 0 test bs) (cond (offers names q.now x) (Some c.args.index) None)) (sym says)
          ∙ sym (place_from-push 0 c.args.index test bs b (omega (arith, len)));
      within = is.within;
      again =
          first-member names bs b ms ws old.next old.back is.again
          (subst (λ (x : Module). HasFirst names (is_open names ms x.offered) ws old.next old.back) (sym says)
          looks.too);
      behind = is.behind;
    }) c.offer_each.ensures
