use Rattle.std.proofs.Common.{All, Any, inl, inr, map, subst}
use Rattle.doslink_passes.specs.Request.{given_of, names_of, says_of}
use Rattle.doslink_jobs.specs.inside.Suspects.{IsFaulty, IsReadable}
use Rattle.doslink_jobs.proofs.FaultyModules.{offered-bytes}
use Rattle.doslink_passes.proofs.Refused.{refused-exit}
use Rattle.doslink_jobs.proofs.taking.tell_missing.Goals as goal

pub returns : goal.returns
returns g c =
    let r = c.args.request.now in (
      c.in_ok-check_modules.ensures,
      subst (All (IsReadable r.job.now (says_of r) (given_of r)))
          (offered-bytes c.deref-2.result.now c.in_ok-offering.offering.items c.names.result
          (names_of r.job.now.ignore_case) (map (λ w. w.name.now) c.args.missing.now) c.deref.result.now
          c.args.gathered.now.bytes.items c.deref-2.ensures.value c.in_ok-offering.ensures c.names.ensures
          c.deref.ensures.value)
          c.in_ok-check_offering.ensures,
    )

pub returns-in_err-check_modules : goal.returns-in_err-check_modules
returns-in_err-check_modules g c =
    refused-exit _ c.from_residual.result _ c.from_residual.ensures.1
    (λ some. inl some) c.in_err-check_modules.ensures

pub returns-in_err-check_offering : goal.returns-in_err-check_offering
returns-in_err-check_offering g c =
    let r = c.args.request.now in
    refused-exit _ c.from_residual-in_err-check_offering.result _ c.from_residual-in_err-check_offering.ensures.1
    (λ some. inr (
      c.in_ok-check_modules.ensures,
      subst (Any (IsFaulty r.job.now (says_of r) (given_of r)))
          (offered-bytes c.deref-2.result.now c.in_ok-offering.offering.items c.names.result
          (names_of r.job.now.ignore_case) (map (λ w. w.name.now) c.args.missing.now) c.deref.result.now
          c.args.gathered.now.bytes.items c.deref-2.ensures.value c.in_ok-offering.ensures c.names.ensures
          c.deref.ensures.value)
          some,
    ))
    c.in_err-check_offering.ensures
