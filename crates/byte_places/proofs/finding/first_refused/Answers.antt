use Rattle.byte_places.proofs.Agreeing.{agrees-short}
use Rattle.byte_places.proofs.finding.first_refused.Goals as goal

pub returns-then-bytes-pattern : goal.returns-then-bytes-pattern
returns-then-bytes-pattern c = agrees-short c.args.pattern.now c.args.bytes.now c.if-bytes-pattern.true
