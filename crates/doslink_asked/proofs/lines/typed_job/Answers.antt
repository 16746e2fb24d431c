use Rattle.std.proofs.Common.{subst}
use Rattle.std.proofs.lemmas.Result.{IfOk-weaker}
use Rattle.doslink_asked.specs.Asked.{IsLined}
use Rattle.doslink_asked.proofs.lines.typed_job.Goals as goal

pub returns : goal.returns
returns g c =
    let told = g.W.World.bytes c.args.world.now in
    let parts = c.in_ok-parts.parts in
    let front = parts.front.now in
    let line = parts.text.now in
    let (same, stands, (rounds, spoken)) = c.in_ok-parts.ensures in
    IfOk-weaker c.lined_job.result _ _
    (λ job lined. (
      front,
      stands,
      rounds,
      line,
      spoken,
      subst (λ linker. IsLined told linker front line job) same lined,
    ))
    c.lined_job.ensures
