use Rattle.std.proofs.Common.{subst, sym}
use Rattle.doslink_link.specs.Forms.{IsFormed}
use Rattle.doslink_passes.specs.declared.stop.Stop.TheVariants.{Memory}
use Rattle.doslink_passes.proofs.Refused.{refused-exit}
use Rattle.doslink_jobs.proofs.linking.formed.Goals as goal

pub returns-in-Ok-clause-formed : goal.returns-in-Ok-clause-formed
returns-in-Ok-clause-formed g c names modules is =
    subst (λ r. IsFormed c.args.job.now.form names modules r c.in-Ok.linked.file.items) (sym c.in-Ok.ensures.same)
    (c.in-Ok.ensures.forms names modules is)

pub returns-in_err-push_form_fault-in-Err-Form-clause-formed
    : goal.returns-in_err-push_form_fault-in-Err-Form-clause-formed
returns-in_err-push_form_fault-in-Err-Form-clause-formed g c names modules is =
    let exit = c.from_residual in
    refused-exit _ exit.result Memory exit.ensures.1 (λ none. absurd none) tt

pub returns-in_ok-push_form_fault-in-Err-Form-clause-formed
    : goal.returns-in_ok-push_form_fault-in-Err-Form-clause-formed
returns-in_ok-push_form_fault-in-Err-Form-clause-formed g c names modules is =
    (c.in-Err-Form.fault, rw c.in-Err-Form.field-0-is at (c.in-Err-Form.ensures.forms names modules is))
