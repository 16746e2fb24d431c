use Rattle.doslink_passes.proofs.Refused.{OnInput-weaker, entry-fault}
use Rattle.doslink_passes.proofs.locals.declared_in.Goals as goal

pub returns-in-Err : goal.returns-in-Err
returns-in-Err g c =
    OnInput-weaker c.stop_at_entry.result (entry-fault c.in-Err.fault _ c.in-Err.ensures) c.stop_at_entry.ensures
