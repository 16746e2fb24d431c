use Rattle.omf_wide.specs.View.{said_view}
use Rattle.omf_plain.proofs.pass.Pass.take_said.Goals as goal

pub returns-in-Cextdef-clause-plain : goal.returns-in-Cextdef-clause-plain
unfolding said_view
returns-in-Cextdef-clause-plain g c = rw c.in-Cextdef.is (rw c.deref-in-Cextdef.ensures.value at c.plain_cextdef.ensures)
