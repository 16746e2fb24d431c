use Rattle.std.proofs.Common.{subst}
use Rattle.doslink_link.specs.Reading.{IsNoModule}
use Rattle.doslink_passes.proofs.Reading.{unread-is}
use Rattle.doslink_passes.proofs.Refused.{OnInput-weaker}
use Rattle.doslink_passes.proofs.linked.read_made.Goals as goal

pub returns-in-Err-clause-read : goal.returns-in-Err-clause-read
returns-in-Err-clause-read g c =
    OnInput-weaker c.stop_at_made.result
    (λ of. subst IsNoModule c.deref.ensures.value (unread-is c.deref.result.now c.in-Err.fault c.in-Err.ensures of))
    c.stop_at_made.ensures
