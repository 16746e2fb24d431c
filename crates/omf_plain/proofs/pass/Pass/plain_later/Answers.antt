use Rattle.omf_extended.specs.View.{extended_view}
use Rattle.omf_plain.proofs.pass.Pass.plain_later.Goals as goal

pub returns-in-Comdef : goal.returns-in-Comdef
unfolding extended_view
returns-in-Comdef g c = rw c.in-Comdef.is (rw c.deref.ensures.value at c.plain_comdef.ensures)
