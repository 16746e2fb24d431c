use Rattle.doslink_asked.specs.inside.Spoken.{said_lines}
use Rattle.doslink_asked.proofs.Speaking.{stand-next}
use Rattle.doslink_asked.proofs.spoken.next_lines.Goals as goal

pub loop-line-preserved : goal.loop-line-preserved
loop-line-preserved g c =
    let (part, one, is) = c.in_ok-is_file.ensures in
    stand-next (g.W.World.bytes c.args.world.now) c.args.lines.now c.loop-line.line-index _
    (said_lines c.loop-line.next.items) (said_lines c.push_line.new.lines.items) part c.loop-line-test.true
    c.loop-line.invariant one is
