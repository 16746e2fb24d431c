use Rattle.std.proofs.Common.{All, List, map, subst, arith}
use Rattle.std.proofs.lemmas.List.{take_all}
use Rattle.doslink_passes.specs.Request.{given_of, says_of}
use Rattle.doslink_passes.proofs.Refused.{refused-exit}
use Rattle.doslink_telling.specs.declared.offering.Offering.{Offering}
use Rattle.doslink_jobs.specs.inside.Suspects.{IsFaulty, IsReadable}
use Rattle.doslink_jobs.proofs.FaultyModules.{all-one, any-one}
use Rattle.doslink_jobs.proofs.faulty.check_offering.Goals as goal

pub check_alone-requires : goal.check_alone-requires
check_alone-requires g c = c.in_ok-meanings.ensures

pub loop-each-preserved : goal.loop-each-preserved
loop-each-preserved g c =
    let r = c.args.request.now in
    all-one (IsReadable r.job.now (says_of r) (given_of r)) (λ o. o.bytes.now) c.args.offering.now
    c.loop-each.each-index _ c.loop-each-test.true c.loop-each.invariant c.in_ok-check_alone.ensures

pub returns : goal.returns
returns g c =
    let r = c.args.request.now in
    subst (λ (hs : List Offering). All (IsReadable r.job.now (says_of r) (given_of r)) (map (λ o. o.bytes.now) hs))
    (take_all c.loop-each.each-index c.args.offering.now (omega arith)) c.loop-each.invariant

pub returns-in_err-check_alone : goal.returns-in_err-check_alone
returns-in_err-check_alone g c =
    let r = c.args.request.now in
    refused-exit _ c.from_residual-in_err-check_alone.result _ c.from_residual-in_err-check_alone.ensures.1
    (λ faulty. any-one (IsFaulty r.job.now (says_of r) (given_of r)) (λ o. o.bytes.now) c.args.offering.now
    c.loop-each.each-index _ c.loop-each-test.true faulty)
    c.in_err-check_alone.ensures
