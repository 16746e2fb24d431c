use Rattle.omf_record.specs.View.{view}
use Rattle.omf_text.proofs.details.put_details.Goals as goal

pub returns-in-Linnum : goal.returns-in-Linnum
unfolding view
returns-in-Linnum g c = rw c.in-Linnum.is (rw c.deref-in-Linnum.ensures.value at c.put_lines.ensures)

pub returns-in-Ledata : goal.returns-in-Ledata
unfolding view
returns-in-Ledata g c = rw c.in-Ledata.is c.put_data.ensures

pub returns-in-Lidata : goal.returns-in-Lidata
unfolding view
returns-in-Lidata g c = rw c.in-Lidata.is (rw c.deref-in-Lidata.ensures.value at c.put_repeated.ensures)
