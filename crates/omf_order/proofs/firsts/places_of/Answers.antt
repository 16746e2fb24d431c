use Rattle.std.proofs.Common.{◌∙◌, ap, arith, map}
use Rattle.std.proofs.lemmas.List.{take_all}
use Rattle.std.specs.List.{position_or_len}
use Rattle.omf_place.proofs.FirstMet.{map-turn}
use Rattle.omf_order.proofs.firsts.places_of.Goals as goal

pub loop-key-preserved : goal.loop-key-preserved
loop-key-preserved g c =
    let eq = g.K.PartialEq.eq in
    c.in_ok-push.ensures.items
    ∙ map-turn (λ k. position_or_len (eq k) c.args.known.now) c.args.asked.now c.loop-key.key-index c.key-item.result
    c.loop-key.places.items c.first-place.result c.loop-key-test.true c.key-item.is c.loop-key.invariant
    c.first-place.ensures

pub loop-key-init : goal.loop-key-init
loop-key-init g c = c.new-places.ensures.items

pub returns : goal.returns
returns g c =
    let eq = g.K.PartialEq.eq in
    c.loop-key.invariant
    ∙ ap (map (λ k. position_or_len (eq k) c.args.known.now))
    (take_all c.loop-key.key-index c.args.asked.now (omega arith))
