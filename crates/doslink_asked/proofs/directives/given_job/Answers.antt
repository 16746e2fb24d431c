use Rattle.std.proofs.lemmas.Result.{IfOk-weaker}
use Rattle.doslink_asked.specs.inside.Spoken.{said_lines}
use Rattle.doslink_asked.proofs.directives.given_job.Goals as goal

pub returns : goal.returns
returns g c =
    let spoken = c.in_ok-spoken.spoken in
    IfOk-weaker c.text_job.result _ _
    (λ job said.
    let (directives, means, named) = said in
    (said_lines spoken.lines.items, spoken.text.now, c.in_ok-spoken.ensures, directives, means, named)) c.text_job.ensures
