use Rattle.std.proofs.Common.{subst, sym}
use Rattle.std.proofs.lemmas.List.Elements.{All-push}
use Rattle.doslink_jobs.specs.Jobs.{IsNamedBy}
use Rattle.doslink_jobs.specs.inside.Gathering.{AreNamed}
use Rattle.doslink_jobs.proofs.gathering.push_name.Goals as goal

pub returns : goal.returns
returns g c =
    λ modules named before.
    subst (AreNamed modules) (sym c.in_ok-push.ensures.items)
    (All-push (λ l. IsNamedBy modules l.name.now) c.args.libraries.now.items _ before named)
