use Rattle.omf_codec.proofs.Failing.{narrow_fails}
use Rattle.omf_codec.proofs.numbers.read_number.Goals as goal

pub returns-in-Err : goal.returns-in-Err
returns-in-Err g c = rw c.if-wide.false (narrow_fails c.args.bytes.now c.in-Err.e c.in-Err.ensures)
