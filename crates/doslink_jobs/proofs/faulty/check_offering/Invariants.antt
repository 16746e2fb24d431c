use Rattle.std.proofs.Common.{All, map, take}
use Rattle.doslink_passes.specs.Request.{given_of, says_of}
use Rattle.doslink_jobs.specs.inside.Suspects.{IsReadable}
use Rattle.doslink_jobs.proofs.faulty.check_offering.Given as goal

abbrev pub invariant-loop-each : goal.invariant-loop-each
invariant-loop-each g l =
    All (IsReadable l.fn.request.job.now (says_of l.fn.request) (given_of l.fn.request))
    (map (λ o. o.bytes.now) (take l.each-index l.fn.offering))
