use Rattle.std.proofs.Common.{map, ap}
use Rattle.doslink_stock.specs.Seen.{handed_held}
use Rattle.doslink_jobs.proofs.Rounds.{named-seen}
use Rattle.doslink_jobs.proofs.gathering.push_names.Goals as goal

pub loop-name-init : goal.loop-name-init
loop-name-init g c = λ modules there before. before

pub loop-name-preserved : goal.loop-name-preserved
loop-name-preserved g c =
    λ modules there before.
    named-seen c.deref-name-items.result.now c.loop-name.name-index _ modules (handed_held c.args.handed.now)
    c.loop-name.libraries.items c.push_name.new.libraries.items c.loop-name-test.true
    (c.in_ok-push_name.ensures modules) there (ap (map (λ n. n.now)) c.deref-name-items.ensures.value)
    (c.loop-name.invariant modules there before)
