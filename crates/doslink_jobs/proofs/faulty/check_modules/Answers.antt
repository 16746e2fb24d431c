use Rattle.std.proofs.Common.{map, ap, inl, inr, ◌∙◌, [], slice_get, arith}
use Rattle.std.proofs.lemmas.List.{length-map}
use Rattle.std.specs.Prelude.{unwrap_or}
use Rattle.doslink_passes.specs.Plain.{IsNoPlain, IsPlain, taking_of}
use Rattle.doslink_passes.specs.Request.{given_of, names_of, says_of}
use Rattle.doslink_passes.proofs.Fates.{as-many-fates}
use Rattle.doslink_passes.proofs.Refused.{refused-exit}
use Rattle.doslink_passes.proofs.Taking.{by-job, none-next, plain-all, plain-next}
use Rattle.doslink_stock.specs.Seen.{handed_held}
use Rattle.doslink_jobs.proofs.faulty.check_modules.Goals as goal

pub returns-in_err-fates : goal.returns-in_err-fates
returns-in_err-fates g c =
    refused-exit _ c.from_residual-in_err-fates.result _ c.from_residual-in_err-fates.ensures.1 inl
    c.in_err-fates.ensures

pub loop-index-preserved : goal.loop-index-preserved
loop-index-preserved g c =
    let r = c.args.request.now in
    let one = c.index-handed-index.result in
    let fates = map (λ v. v.items) c.in_ok-fates.fates.items in
    let own = c.fates_at.ensures
    ∙ ap (λ fs. unwrap_or (slice_get (map (λ v. v.items) fs) c.loop-index.index) []) c.deref.ensures.value in
    let many = as-many-fates (names_of r.job.now.ignore_case) (given_of r) fates c.in_ok-fates.ensures
    ∙ length-map r.handed.now (λ h. (handed_held h).bytes) in
    plain-next (taking_of r.job.now (says_of r) (given_of r)) (λ h. (handed_held h).bytes) r.handed.now fates
    c.loop-index.index one c.fates_at.result.now c.loop-index-test.true many c.index-handed-index.is own
    c.loop-index.invariant
    (by-job r.job.now (says_of r) (given_of r) c.in_ok-meanings.meanings (handed_held one).bytes
    c.fates_at.result.now (λ t. IsPlain t (handed_held one).bytes) c.in_ok-meanings.ensures
    c.in_ok-check_module.ensures)

pub returns : goal.returns
returns g c =
    let r = c.args.request.now in
    let fates = map (λ v. v.items) c.in_ok-fates.fates.items in
    let many = as-many-fates (names_of r.job.now.ignore_case) (given_of r) fates c.in_ok-fates.ensures
    ∙ length-map r.handed.now (λ h. (handed_held h).bytes) in (
      fates,
      c.in_ok-fates.ensures,
      plain-all (taking_of r.job.now (says_of r) (given_of r)) (λ h. (handed_held h).bytes) r.handed.now fates
          c.loop-index.index (omega arith) many c.loop-index.invariant,
    )

pub returns-in_err-check_module : goal.returns-in_err-check_module
returns-in_err-check_module g c =
    let r = c.args.request.now in
    let one = c.index-handed-index.result in
    let fates = map (λ v. v.items) c.in_ok-fates.fates.items in
    let own = c.fates_at.ensures
    ∙ ap (λ fs. unwrap_or (slice_get (map (λ v. v.items) fs) c.loop-index.index) []) c.deref.ensures.value in
    let many = as-many-fates (names_of r.job.now.ignore_case) (given_of r) fates c.in_ok-fates.ensures
    ∙ length-map r.handed.now (λ h. (handed_held h).bytes) in
    refused-exit _ c.from_residual-in_err-check_module.result _ c.from_residual-in_err-check_module.ensures.1
    (λ none. inr (
      fates,
      c.in_ok-fates.ensures,
      none-next (taking_of r.job.now (says_of r) (given_of r)) (λ h. (handed_held h).bytes) r.handed.now fates
          c.loop-index.index one c.fates_at.result.now c.loop-index-test.true many c.index-handed-index.is own
          (by-job r.job.now (says_of r) (given_of r) c.in_ok-meanings.meanings (handed_held one).bytes
          c.fates_at.result.now (λ t. IsNoPlain t (handed_held one).bytes) c.in_ok-meanings.ensures none),
    ))
    c.in_err-check_module.ensures
