use Rattle.std.proofs.Common.{map, ap, ◌∙◌, arith}
use Rattle.std.proofs.lemmas.List.{take_all}
use Rattle.doslink_stock.specs.Seen.{handed_held}
use Rattle.doslink_passes.specs.Sources.{source_bytes}
use Rattle.doslink_passes.proofs.Lists.{map-step}
use Rattle.doslink_passes.proofs.chain.given_sources.Goals as goal

pub loop-each-init : goal.loop-each-init
loop-each-init g c = ap (map source_bytes) c.new-sources.ensures.items

pub loop-each-preserved : goal.loop-each-preserved
loop-each-preserved g c =
    map-step source_bytes (λ h. (handed_held h).bytes) c.args.request.now.handed.now c.loop-each.each-index _
    c.loop-each.sources.items _ _ c.loop-each-test.true c.in_ok-push.ensures.items
    (ap (λ h. (handed_held h).bytes) c.each-item.is) c.loop-each.invariant

pub returns : goal.returns
returns g c =
    c.loop-each.invariant
    ∙ ap (map (λ h. (handed_held h).bytes)) (take_all c.loop-each.each-index c.args.request.now.handed.now (omega arith))
