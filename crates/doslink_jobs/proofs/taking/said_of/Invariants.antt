use Rattle.std.proofs.Common.{◌≡◌, map, take}
use Rattle.omf_search.specs.Results.{module_said}
use Rattle.doslink_stock.specs.Files.{needs}
use Rattle.doslink_stock.specs.Seen.{handed_held}
use Rattle.doslink_jobs.proofs.taking.said_of.Given as goal

abbrev pub invariant-loop-each : goal.invariant-loop-each
invariant-loop-each g l = map module_said l.all.items ≡ map (λ h. needs (handed_held h)) (take l.each-index l.fn.handed)
