use Rattle.doslink_telling.proofs.Texts.{all-more}
use Rattle.doslink_asked.specs.inside.Idle.{idle_line}
use Rattle.doslink_asked.specs.inside.Spoken.{said_lines}
use Rattle.doslink_asked.proofs.directives.push_told.Goals as goal

pub loop-warning-preserved : goal.loop-warning-preserved
loop-warning-preserved c =
    all-more (idle_line (said_lines c.args.spoken.now.lines.items)) c.args.told.now c.loop-warning.warning-index _
    c.loop-warning.lines.items c.push_warning.new.lines.items _ c.loop-warning-test.true c.in_ok-push_warning.ensures
    c.loop-warning.invariant
