use Rattle.std.proofs.lemmas.Result.{IfOk-weaker}
use Rattle.doslink_asked.proofs.lines.lined_job.Goals as goal

pub returns-in-Ok : goal.returns-in-Ok
returns-in-Ok g c =
    IfOk-weaker c.made_job.result _ _ (λ job made. (c.in-Ok.made, c.in-Ok.ensures, made)) c.made_job.ensures
