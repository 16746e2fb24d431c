use Rattle.std.proofs.Common.{IsTrue, subst}
use Rattle.doslink_files.proofs.Looking.{begins-by}
use Rattle.doslink_files.proofs.standing.stands_as_input.Goals as goal

pub returns-in-Ok-read-clause-begins : goal.returns-in-Ok-read-clause-begins
returns-in-Ok-read-clause-begins g c begins = begins-by (g.W.World.bytes c.args.world.now c.args.path.now)
    (g.W.Input.Read.remaining c.in-Ok-open.file) (g.W.Input.Read.remaining c.read.new.self) c.in-Ok-read.n
    c.read.new.buf c.in-Ok-open.ensures c.in-Ok-read.ensures.bytes.0
    (subst IsTrue c.begins_as_input.ensures begins)
