use Rattle.doslink_asked.proofs.Speaking.{stands-alone}
use Rattle.doslink_asked.proofs.spoken.push_line.Goals as goal

pub returns-in_ok-push-in-None : goal.returns-in_ok-push-in-None
returns-in_ok-push-in-None g c =
    stands-alone (g.W.World.bytes c.args.world.now) c.args.line c.args.lines.now.items c.push.new.self.items
    c.line_response.result c.in-None.is c.line_response.ensures (c.in_ok-push-in-None.ensures.items)
