use Rattle.std.proofs.Common.{◌≡◌, ◌∙◌, ℕ, Option, ap, arith, length, ◌+◌, unwrap_or}
use Rattle.std.specs.Map.{lookup}
use Rattle.std.specs.List.{position_or_len}
use Rattle.indexmap.specs.IndexMap.{get}
use Rattle.omf_place.proofs.FirstMet.{met-turn, place_from}
use Rattle.std.proofs.lemmas.List.{take_all}
use Rattle.omf_order.proofs.Lists.{place_is}
use Rattle.omf_order.proofs.firsts.places_met.Goals as goal

pub loop-place-preserved : goal.loop-place-preserved
loop-place-preserved g c =
    let eq = g.K.PartialEq.eq in
    let old : g.row.K.Denot → Option ℕ = λ q. get eq c.loop-place.met q in
    met-turn eq g.met.K.Eq.laws old (λ q. get eq c.meet.new.met q) c.args.keys.now c.loop-place.place
    c.index-keys-place.result c.loop-place-test.true c.index-keys-place.is
    c.loop-place.invariant c.in_ok-meet.ensures.kept c.in_ok-meet.ensures.added

pub loop-place-init : goal.loop-place-init
loop-place-init g c = let eq = g.K.PartialEq.eq in λ q. ap (λ es. lookup (eq q) es) c.new-met.ensures.empty

pub returns : goal.returns
returns g c = λ q.
    let eq = g.K.PartialEq.eq in
    let keys = c.args.keys.now in
    let met : get eq c.loop-place.met q ≡ place_from 0 (eq q) keys =
    c.loop-place.invariant q ∙ ap (λ ks. place_from 0 (eq q) ks) (take_all c.loop-place.place keys (omega arith)) in
    let zero_length : length keys ≡ 0 + length keys = omega arith in
    let zero_place : 0 + position_or_len (eq q) keys ≡ position_or_len (eq q) keys = omega arith in
    ap (λ o. unwrap_or o (length keys)) met
    ∙ ap (λ n. unwrap_or (place_from 0 (eq q) keys) n) zero_length ∙ place_is 0 (eq q) keys ∙ zero_place
