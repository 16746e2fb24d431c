use Rattle.std.proofs.Common.{ℕ, ◌∙◌, ap, map, unwrap_or, Option}
use Rattle.std.proofs.lemmas.List.{take_all}
use Rattle.std.specs.List.{position_or_len}
use Rattle.std.specs.Map.{lookup}
use Rattle.indexmap.specs.IndexMap.{get}
use Rattle.omf_place.proofs.FirstMet.{met-turn, first-turn, map-turn}
use Rattle.omf_place.proofs.firsts.first_places.Goals as goal

pub loop-place-init : goal.loop-place-init
loop-place-init g c = record {
  met = λ q. ap (λ es. lookup (g.K.PartialEq.eq q) es) c.new-met.ensures.empty;
  firsts = c.new-firsts.ensures.items;
}

pub loop-place-preserved : goal.loop-place-preserved
loop-place-preserved g c =
    let eq = g.K.PartialEq.eq in
    let keys = c.args.keys.now in
    let i = c.loop-place.place in
    let k = c.index-keys-place.result in
    let old : g.row.K.Denot → Option ℕ = λ q. get eq c.loop-place.met q in
    record {
      met =
          met-turn eq g.met.K.Eq.laws old (λ q. get eq c.first_met.new.met q) keys i k c.loop-place-test.true
          c.index-keys-place.is c.loop-place.invariant.met
          c.in_ok-first.ensures.kept c.in_ok-first.ensures.added;
      firsts =
          c.in_ok-push.ensures.items
          ∙ map-turn (λ x. position_or_len (eq x) keys) keys i k c.loop-place.firsts.items c.in_ok-first.first
          c.loop-place-test.true c.index-keys-place.is c.loop-place.invariant.firsts
          (c.in_ok-first.ensures.first ∙ ap (λ o. unwrap_or o i) (c.loop-place.invariant.met k)
          ∙ first-turn eq g.met.K.Eq.laws keys i k c.loop-place-test.true c.index-keys-place.is);
    }

pub returns : goal.returns
returns g c =
    let keys = c.args.keys.now in
    c.loop-place.invariant.firsts
    ∙ ap (λ xs. map (λ k. position_or_len (g.K.PartialEq.eq k) keys) xs)
    (take_all c.loop-place.place keys c.loop-place-test.false)
