use Rattle.std.proofs.Common.{inl, inr, rules}
use Rattle.std.proofs.lemmas.List.{nil_from_length}
use Rattle.doslink_jobs.proofs.Placing.{not-empty}
use Rattle.doslink_jobs.proofs.Refused.{halt-exit, halts-weaker}
use Rattle.doslink_jobs.proofs.running.check_job.Goals as goal

pub returns-then-is_empty : goal.returns-then-is_empty
returns-then-is_empty g c =
    inl (nil_from_length c.args.job.now.inputs.items (let empty = c.if-is_empty.true in search rules))

pub returns-in_err-check_form : goal.returns-in_err-check_form
returns-in_err-check_form g c =
    halt-exit _ c.from_residual-in_err-check_form.result _ c.from_residual-in_err-check_form.ensures.1 (λ none. none) (λ other. inr (inl other))
    c.in_err-check_form.ensures

pub returns-in_err-check_output : goal.returns-in_err-check_output
returns-in_err-check_output g c =
    halt-exit _ c.from_residual-in_err-check_output.result _ c.from_residual-in_err-check_output.ensures.1
    (λ none. none) (λ mixed. inr (inr (inl mixed))) c.in_err-check_output.ensures

pub returns : goal.returns
returns g c =
    halts-weaker c.check_folders.result
    (λ done few. (
      not-empty c.args.job.now.inputs.items (let full = c.if-is_empty.false in search rules),
      c.in_ok-check_form.ensures,
      c.in_ok-check_output.ensures,
      few,
    ))
    (λ none. none) (λ many. inr (inr (inr many))) c.check_folders.ensures
