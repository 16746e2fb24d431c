use Rattle.std.proofs.Common.{sym, ◌∙◌}
use Rattle.doslink_passes.proofs.Fronts.{cut-fault, program-count}
use Rattle.doslink_passes.proofs.Refused.{OnInput-holds}
use Rattle.doslink_passes.proofs.stacking.cut.Goals as goal

pub invariant_of-result : goal.invariant_of-result
invariant_of-result g c = record { even = c.args.linked.even ∙ sym (program-count _ _ _ c.in-Ok.ensures) }

pub returns-clause-cut : goal.returns-clause-cut
returns-clause-cut g c =
    OnInput-holds c.stop_at_cut.result
    (cut-fault _ _ _ _ c.in-Err-Outside.field-0-is c.in-Err-Outside.ensures)
