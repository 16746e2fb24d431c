use Rattle.omf_record.specs.View.{view}
use Rattle.omf_plain.proofs.pass.Pass.plain_record.Goals as goal

pub returns-in-Extdef : goal.returns-in-Extdef
unfolding view
returns-in-Extdef g c =
    rw (c.in-Extdef.is, c.if-local.false) (rw c.deref.ensures.value at c.plain_extdef.ensures)
