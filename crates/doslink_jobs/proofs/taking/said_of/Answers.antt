use Rattle.std.proofs.Common.{ap, ◌∙◌}
use Rattle.omf_search.specs.Results.{module_said}
use Rattle.doslink_stock.specs.Files.{needs}
use Rattle.doslink_stock.specs.Seen.{handed_held}
use Rattle.doslink_stock.proofs.Walks.{map-step}
use Rattle.doslink_jobs.proofs.taking.said_of.Goals as goal

pub loop-each-preserved : goal.loop-each-preserved
loop-each-preserved g c =
    map-step module_said (λ h. needs (handed_held h)) c.args.handed.now c.loop-each.each-index c.each-item.result
    c.loop-each.all.items _ _ c.loop-each-test.true c.in_ok-push.ensures.items
    (c.needs.ensures ∙ ap (λ h. needs (handed_held h)) c.each-item.is)
    c.loop-each.invariant
