use Rattle.doslink_asked.proofs.Speaking.{names-none-next}
use Rattle.doslink_asked.proofs.spoken.check_depth.Goals as goal

pub loop-line-preserved : goal.loop-line-preserved
loop-line-preserved c =
    names-none-next c.args.lines.now c.loop-line.line-index _ c.line_response.result c.loop-line-test.true
    c.loop-line.invariant c.line_response.ensures c.in_default.not-Some
