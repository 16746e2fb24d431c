use Rattle.doslink_passes.proofs.Refused.{refused-exit}
use Rattle.doslink_jobs.proofs.faulty.check_module.Goals as goal

pub returns-in_err-plain_module : goal.returns-in_err-plain_module
returns-in_err-plain_module g c =
    refused-exit _ c.from_residual.result _ c.from_residual.ensures.1 (λ none. none) c.in_err-plain_module.ensures

pub returns : goal.returns
returns g c = (_, _, c.in_ok-plain_module.ensures)
