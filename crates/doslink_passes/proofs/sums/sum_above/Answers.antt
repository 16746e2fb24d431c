use Rattle.doslink_passes.proofs.Summing.{tells-first, tells-unplaced}
use Rattle.doslink_passes.proofs.Refused.{steps-weaker}
use Rattle.doslink_passes.proofs.sums.sum_above.Goals as goal

pub returns-in-Ok : goal.returns-in-Ok
returns-in-Ok g c =
    tells-first c.args.narrowed c.args.names c.args.modules.now c.in-Ok.layout
    c.first_above.result c.in-Ok.ensures.layout c.first_above.ensures

pub returns-in-Err : goal.returns-in-Err
returns-in-Err g c =
    steps-weaker c.unplaced.result
    (λ at is. tells-unplaced c.args.narrowed c.args.names c.args.modules.now c.in-Err.fault at
    is.0 is.1 c.in-Err.ensures.fault)
    (λ none. none) c.unplaced.ensures
