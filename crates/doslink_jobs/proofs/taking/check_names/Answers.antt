use Rattle.std.proofs.Common.{[], ◌≡◌, inr, ap, subst, sym, ◌∙◌}
use Rattle.std.proofs.lemmas.Bool.{eqb-true}
use Rattle.omf_search.specs.Results.{wanted_said}
use Rattle.doslink_telling.specs.Missing.{unmet, wants_marks}
use Rattle.doslink_passes.specs.Request.{given_of, names_of, says_of}
use Rattle.doslink_jobs.proofs.Doing.{missing-of, none-unmet, some-unmet}
use Rattle.doslink_jobs.proofs.FaultyModules.{suspected}
use Rattle.doslink_passes.proofs.Refused.{refused-exit}
use Rattle.doslink_jobs.proofs.taking.check_names.Goals as goal

pub returns-then-is_empty : goal.returns-then-is_empty
returns-then-is_empty g c =
    let says = says_of c.args.request.now in (
      subst (λ n. unmet n says ≡ []) c.names.ensures
          (none-unmet c.names.result wanted_said c.in_ok-unmet.unmet.missing.items c.as_slice.result.now
          says c.in_ok-unmet.ensures.missing c.as_slice.ensures.value
          (eqb-true _ 0 (sym c.is_empty.ensures ∙ c.if-is_empty.true))),
      c.in_ok-unmet.ensures.marks ∙ ap (λ n. wants_marks n says) c.names.ensures,
    )

pub returns-in_err-tell_missing : goal.returns-in_err-tell_missing
returns-in_err-tell_missing g c =
    let says = says_of c.args.request.now in
    refused-exit _ c.from_residual-in_err-tell_missing.result _ c.from_residual-in_err-tell_missing.ensures.1
    (λ some. (
      missing-of c.names.result (names_of c.args.request.now.job.now.ignore_case) says
          c.names.ensures (some-unmet c.names.result wanted_said
          c.in_ok-unmet.unmet.missing.items c.as_slice.result.now says c.in_ok-unmet.ensures.missing
          c.as_slice.ensures.value (sym c.is_empty.ensures ∙ c.if-is_empty.false)),
      suspected c.args.request.now.job.now says (given_of c.args.request.now) _ some,
    ))
    c.in_err-tell_missing.ensures

pub returns : goal.returns
returns g c =
    let says = says_of c.args.request.now in (
      missing-of c.names.result (names_of c.args.request.now.job.now.ignore_case) says
          c.names.ensures (some-unmet c.names.result wanted_said
          c.in_ok-unmet.unmet.missing.items c.as_slice.result.now says c.in_ok-unmet.ensures.missing
          c.as_slice.ensures.value (sym c.is_empty.ensures ∙ c.if-is_empty.false)),
      inr c.in_ok-tell_missing.ensures.0,
    )
