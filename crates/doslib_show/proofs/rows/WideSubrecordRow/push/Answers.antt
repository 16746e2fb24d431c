use Rattle.doslib_show.proofs.rows.WideSubrecordRow.push.Goals as goal

pub returns-in-SetFrame : goal.returns-in-SetFrame
returns-in-SetFrame g c = rw c.in-SetFrame.is (rw c.as_slice.ensures at c.push_parts.ensures)

pub returns-in-SetTarget : goal.returns-in-SetTarget
returns-in-SetTarget g c =
    rw c.in-SetTarget.is (rw c.as_slice-in-SetTarget.ensures at c.push_parts-in-SetTarget.ensures)
