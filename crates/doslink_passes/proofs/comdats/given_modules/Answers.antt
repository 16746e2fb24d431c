use Rattle.std.proofs.Common.{map, ap, ◌∙◌, arith}
use Rattle.std.proofs.lemmas.List.{take_all}
use Rattle.doslink_stock.specs.Seen.{handed_held}
use Rattle.doslink_passes.proofs.Lists.{map-step}
use Rattle.doslink_passes.proofs.comdats.given_modules.Goals as goal

pub loop-index-init : goal.loop-index-init
loop-index-init g c = ap (map (λ g. g.bytes.now)) c.new-all.ensures.items

pub loop-index-preserved : goal.loop-index-preserved
loop-index-preserved g c =
    map-step (λ g. g.bytes.now) (λ h. (handed_held h).bytes) c.args.request.now.handed.now c.loop-index.index
    c.index-handed-index.result c.loop-index.all.items c.push.new.self.items _ c.loop-index-test.true
    c.in_ok-push.ensures.items (ap (λ h. (handed_held h).bytes) c.index-handed-index.is) c.loop-index.invariant

pub returns : goal.returns
returns g c =
    c.loop-index.invariant
    ∙ ap (map (λ h. (handed_held h).bytes)) (take_all c.loop-index.index c.args.request.now.handed.now (omega arith))
