use Rattle.std.proofs.Common.{IsErr, Ok, map, ap, ◌∙◌, arith}
use Rattle.std.proofs.lemmas.List.{take_all}
use Rattle.doslink_passes.proofs.Lists.{map-step}
use Rattle.doslink_stock.specs.Seen.{handed_held}
use Rattle.doslink_passes.specs.Communals.{declared_by}
use Rattle.doslink_passes.specs.inside.Declaring.{declared_said}
use Rattle.doslink_passes.proofs.Declaring.{declared-one}
use Rattle.doslink_passes.proofs.Refused.{OnInput-weaker, and-then-err, any-seen, entry-fault}
use Rattle.doslink_passes.proofs.communals.declared_of.Goals as goal

pub loop-each-init : goal.loop-each-init
loop-each-init g c = ap (λ ds. map (λ d. Ok (declared_said d)) ds) c.new-all.ensures.items

pub loop-each-preserved : goal.loop-each-preserved
loop-each-preserved g c =
    map-step (λ d. Ok (declared_said d)) (λ h. declared_by (handed_held h)) c.args.request.now.handed.now
    c.loop-each.each-index c.each-item.result c.loop-each.all.items c.push.new.self.items _ c.loop-each-test.true
    c.in_ok-push-in-Ok.ensures.items
    (declared-one c.each-item.result c.in-Ok.communals.items _ c.in-Ok.ensures c.as_slice.ensures.value
    ∙ ap (λ h. declared_by (handed_held h)) c.each-item.is)
    c.loop-each.invariant

pub returns-in-Err : goal.returns-in-Err
returns-in-Err g c =
    OnInput-weaker c.stop_at_entry.result
    (λ other. any-seen (λ m. IsErr (declared_by m)) handed_held c.args.request.now.handed.now c.loop-each.each-index
    c.each-item.result c.loop-each-test.true c.each-item.is
    (and-then-err _ _ (entry-fault c.in-Err.fault _ c.in-Err.ensures other)))
    c.stop_at_entry.ensures

pub returns : goal.returns
returns g c =
    c.loop-each.invariant
    ∙ ap (λ hs. map (λ h. declared_by (handed_held h)) hs)
    (take_all c.loop-each.each-index c.args.request.now.handed.now (omega arith))
