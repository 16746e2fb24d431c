use Rattle.doslib_jobs.proofs.program.tell_bytes.Goals as goal

pub returns-in_ok-write_asked-in-Ok : goal.returns-in_ok-write_asked-in-Ok
returns-in_ok-write_asked-in-Ok g c =
    rw c.in-Ok.ensures.0 (
      rw c.in-Ok.ensures.1 at c.in_ok-print_program-in-Ok.ensures,
      c.in_ok-write_asked-in-Ok.ensures,
    )
