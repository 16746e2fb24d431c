use Rattle.doslink_asked.specs.inside.Spoken.{said_lines}
use Rattle.doslink_asked.proofs.Speaking.{numbered-line}
use Rattle.doslink_asked.proofs.spoken.push_numbered.Goals as goal

pub loop-index-preserved : goal.loop-index-preserved
loop-index-preserved c =
    numbered-line c.args.path c.args.texts.now c.loop-index.index _ c.loop-index.lines.items c.push.new.self.items
    (said_lines c.args.lines.now.items) c.loop-index-test.true c.in_ok-push.ensures.items c.loop-index.invariant
