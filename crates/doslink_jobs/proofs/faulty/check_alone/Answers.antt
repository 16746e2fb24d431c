use Rattle.std.proofs.Common.{[], ◌∷◌, map, ap, inl, inr, slice_get, subst, ◌∙◌}
use Rattle.std.specs.Prelude.{unwrap_or}
use Rattle.doslink_passes.specs.Comdats.{AreFatesFor, HaveClash}
use Rattle.doslink_passes.specs.Plain.{IsNoPlain, IsPlain, taking_of}
use Rattle.doslink_passes.specs.Request.{given_of, names_of, says_of}
use Rattle.doslink_passes.proofs.Fates.{as-many-fates}
use Rattle.doslink_passes.proofs.Refused.{refused-exit, steps-weaker}
use Rattle.doslink_passes.proofs.Taking.{alone-none, alone-plain, by-job}
use Rattle.doslink_jobs.proofs.faulty.check_alone.Goals as goal

pub returns-in_err-fates : goal.returns-in_err-fates
returns-in_err-fates g c =
    refused-exit _ c.from_residual.result _ c.from_residual.ensures.1
    (λ clash. inl (subst (λ n. HaveClash n (c.args.given.bytes.now ∷ [])) c.names.ensures
    (subst (λ l. HaveClash c.names.result (map (λ g. g.bytes.now) l)) c.as_slice.ensures clash)))
    c.in_err-fates.ensures

pub returns : goal.returns
returns g c =
    let r = c.args.request.now in
    let m = c.args.meanings.now in
    let bytes = c.args.given.bytes.now in
    let takes = taking_of r.job.now (says_of r) (given_of r) in
    let fates = map (λ v. v.items) c.in_ok-fates.fates.items in
    let own = c.fates_at.ensures ∙ ap (λ fs. unwrap_or (slice_get (map (λ v. v.items) fs) 0) []) c.deref.ensures.value in
    let fare = subst (λ n. AreFatesFor n (bytes ∷ []) fates) c.names.ensures
    (subst (λ l. AreFatesFor c.names.result (map (λ g. g.bytes.now) l) fates) c.as_slice.ensures
    c.in_ok-fates.ensures) in
    let one = as-many-fates (names_of r.job.now.ignore_case) (bytes ∷ []) fates fare in
    steps-weaker c.check_module.result
    (λ done is. (
      fates,
      fare,
      alone-plain takes bytes fates c.fates_at.result.now one own
          (by-job r.job.now (says_of r) (given_of r) m bytes c.fates_at.result.now (λ t. IsPlain t bytes) c.requires is),
    ))
    (λ none. inr (
      fates,
      fare,
      alone-none takes bytes fates c.fates_at.result.now one own
          (by-job r.job.now (says_of r) (given_of r) m bytes c.fates_at.result.now (λ t. IsNoPlain t bytes) c.requires
          none),
    ))
    c.check_module.ensures
