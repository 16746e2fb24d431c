use Rattle.std.proofs.Common.{ap, ◌∙◌, sym, refl, rules, map, subst}
use Rattle.std.proofs.lemmas.List.{map-append}
use Rattle.std.proofs.lemmas.Option.{slice_get_read}
use Rattle.std.specs.List.{AllByRecursion}
use Rattle.omf_place.specs.inside.Program.{addresses_of, HasStands, IsSoundInput, input_view}
use Rattle.omf_place.specs.inside.Sites.{sites_view}
use Rattle.omf_place.proofs.InputLists.{begins_next}
use Rattle.omf_place.proofs.InputSteps.{sites_inside, stands_inside, row_view, row_stands, made-more}
use Rattle.omf_place.proofs.SiteLists.{All-push}
use Rattle.omf_place.proofs.inputs.collect_inputs.Goals as goal

pub row-requires : goal.row-requires
row-requires g c =
    sites_inside c.args.sites.now c.args.stands.now c.args.modules.now c.requires.sites c.requires.stands
    c.loop-input.input c.index-modules-input.result
    (slice_get_read c.args.modules.now _ _ _ refl c.loop-input-test.true c.index-modules-input.is) c.loop-input.start
    c.segment_count-count.result c.loop-input.invariant.start c.segment_count-count.ensures

pub row-requires-in-loop-input : goal.row-requires-in-loop-input
row-requires-in-loop-input g c =
    stands_inside c.args.sites.now c.args.stands.now c.args.modules.now c.requires.sites c.requires.stands
    c.loop-input.input c.index-modules-input.result
    (slice_get_read c.args.modules.now _ _ _ refl c.loop-input-test.true c.index-modules-input.is) c.loop-input.start
    c.segment_count-count.result c.loop-input.invariant.start c.segment_count-count.ensures

pub overflow_add-start : goal.overflow_add-start
overflow_add-start g c =
    let w =
    sites_inside c.args.sites.now c.args.stands.now c.args.modules.now c.requires.sites c.requires.stands
    c.loop-input.input c.index-modules-input.result
    (slice_get_read c.args.modules.now _ _ _ refl c.loop-input-test.true c.index-modules-input.is) c.loop-input.start
    c.segment_count-count.result c.loop-input.invariant.start c.segment_count-count.ensures in
    search rules

pub loop-input-preserved : goal.loop-input-preserved
loop-input-preserved g c =
    let ss = c.args.sites.now in
    let ms = c.args.modules.now in
    let m = c.index-modules-input.result in
    let at = slice_get_read ms _ _ _ refl c.loop-input-test.true c.index-modules-input.is in
    let begins = c.loop-input.invariant.start in
    let counts = c.segment_count-count.ensures in
    record {
      start = begins_next c.loop-input.input ms m at c.loop-input.start c.segment_count-count.result begins counts;
      made = ap (λ xs. map input_view xs) c.in_ok-push.ensures.items ∙ map-append input_view c.loop-input.all.items _
          ∙ made-more ss c.args.stands.now ms c.requires.sites c.requires.stands c.loop-input.input m at
          c.loop-input.start c.segment_count-count.result begins counts _ _ c.loop-input.invariant.made
          (ap (λ r. record { input = c.loop-input.input; says = m; sites = r })
          (row_view ss c.args.stands.now ms c.requires.sites c.requires.stands c.loop-input.input m at
          c.loop-input.start c.segment_count-count.result begins counts c.row.result.now c.row.ensures));
      stands =
          subst (λ xs. AllByRecursion (HasStands (sites_view ss) (addresses_of c.args.stands.now)) xs)
          (sym c.in_ok-push.ensures.items)
          (All-push (HasStands (sites_view ss) (addresses_of c.args.stands.now)) c.loop-input.all.items _
          c.loop-input.invariant.stands
          (row_stands ss c.args.stands.now ms c.requires.sites c.requires.stands c.loop-input.input m at
          c.loop-input.start c.segment_count-count.result begins counts c.row.result.now c.row-in-loop-input.result.now
          c.row.ensures c.row-in-loop-input.ensures));
      sound =
          subst (λ xs. AllByRecursion IsSoundInput xs) (sym c.in_ok-push.ensures.items)
          (All-push IsSoundInput c.loop-input.all.items _ c.loop-input.invariant.sound c.promises.ensures);
    }
