use Rattle.std.proofs.Common.{◌∙◌, ap, map, refl, sym}
use Rattle.std.specs.List.{list_any}
use Rattle.std.specs.BTreeSet.{contains}
use Rattle.omf_search.specs.inside.Met.{wanted_order}
use Rattle.omf_search.specs.Missing.{distinct, is_same}
use Rattle.omf_search.specs.Results.{wanted_said}
use Rattle.omf_search.proofs.ChoiceSteps.{wanted_at, wanted_within}
use Rattle.omf_search.proofs.Distinct.{all_missing, found_next, met_next, defined-turn}
use Rattle.omf_search.proofs.unmet.missing_of.Goals as goal

pub loop-wanted-preserved-then-defines : goal.loop-wanted-preserved-then-defines
loop-wanted-preserved-then-defines g c = λ ms is.
    let items = c.deref-wanted-items.result.now in
    let i = c.loop-wanted.wanted-index in
    let inv = c.loop-wanted.invariant ms is in
    let turn =
    defined-turn c.args.names ms (map wanted_said items) i _ _
    (wanted_within items (map wanted_said items) i refl c.loop-wanted-test.true)
    (wanted_at items (map wanted_said items) i refl c.loop-wanted-test.true _)
    (sym (c.defines.ensures ms is) ∙ c.if-defines.true) in
    record {
      found = inv.found ∙ ap (distinct c.args.names) (sym turn);
      met =
          λ q m.
          inv.met q m ∙ ap (list_any (is_same c.args.names (record { name = q.now; wanted_by = m }))) (sym turn);
    }

pub loop-wanted-preserved : goal.loop-wanted-preserved
loop-wanted-preserved g c = λ ms is.
    let items = c.deref-wanted-items.result.now in
    let i = c.loop-wanted.wanted-index in
    let missed = sym (c.defines.ensures ms is) ∙ c.if-defines.false in
    let inv = c.loop-wanted.invariant ms is in
    record {
      found =
          found_next c.args.names ms items i _ c.loop-wanted-test.true missed c.new.result c.new.ensures
          (λ k. contains wanted_order c.loop-wanted.met k) (λ k. contains wanted_order c.push_new.new.met k) _
          inv.met refl c.in_ok-push_new.ensures.met c.loop-wanted.missing.items c.push_new.new.missing.items inv.found
          c.in_ok-push_new.ensures.missing;
      met =
          met_next c.args.names ms items i _ c.loop-wanted-test.true missed c.new.result c.new.ensures
          (λ k. contains wanted_order c.loop-wanted.met k) (λ k. contains wanted_order c.push_new.new.met k) _
          inv.met refl c.in_ok-push_new.ensures.met;
    }

pub returns : goal.returns
returns g c = λ ms is.
    (c.loop-wanted.invariant ms is).found
    ∙ all_missing c.args.names ms c.deref-wanted-items.result.now
    c.loop-wanted.wanted-index c.loop-wanted-test.false
    (ap (map wanted_said) c.deref-wanted-items.ensures.value ∙ is.met.wanted)
