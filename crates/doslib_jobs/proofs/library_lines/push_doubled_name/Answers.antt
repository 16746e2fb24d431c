use Rattle.doslib_jobs.proofs.library_lines.push_doubled_name.Goals as goal

pub returns : goal.returns
returns g c =
    rw (c.deref.ensures.value, c.name_at.ensures, c.name_at-2.ensures) at
    (rw c.as_slice.ensures at c.push_pieces.ensures)
