use Rattle.std.proofs.lemmas.Result.{IfOk-weaker}
use Rattle.doslink_asked.proofs.directives.text_job.Goals as goal

pub returns-in_ok-push_all_warnings-in-Ok : goal.returns-in_ok-push_all_warnings-in-Ok
returns-in_ok-push_all_warnings-in-Ok c =
    IfOk-weaker c.named_job.result _ _ (λ job named. (c.in-Ok.directives, c.in-Ok.ensures, named)) c.named_job.ensures
