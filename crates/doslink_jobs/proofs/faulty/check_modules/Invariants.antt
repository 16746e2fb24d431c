use Rattle.std.proofs.Common.{map, take}
use Rattle.doslink_passes.specs.Plain.{AllArePlain, taking_of}
use Rattle.doslink_passes.specs.Request.{given_of, says_of}
use Rattle.doslink_stock.specs.Seen.{handed_held}
use Rattle.doslink_jobs.proofs.faulty.check_modules.Given as goal

abbrev pub invariant-loop-index : goal.invariant-loop-index
invariant-loop-index g l =
    AllArePlain (taking_of l.fn.request.job.now (says_of l.fn.request) (given_of l.fn.request))
    (map (λ h. (handed_held h).bytes) (take l.index l.fn.request.handed.now))
    (take l.index (map (λ v. v.items) l.fates.items))
