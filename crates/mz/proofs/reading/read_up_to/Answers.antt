use Rattle.std.proofs.Common.{◌++◌, take}
use Rattle.std.proofs.lemmas.Result.{err_from_is_err_and}
use Rattle.omf_frame.proofs.Told.{Consumes-trans}
use Rattle.mz.proofs.reading.read_up_to.Goals as goal

pub returns-in_err-extend_from_slice-clause-memory : goal.returns-in_err-extend_from_slice-clause-memory
returns-in_err-extend_from_slice-clause-memory g c =
    let p = err_from_is_err_and c.from_residual.result c.from_residual.ensures.1 in
    let (more, _, taken) = c.loop-piece.invariant.read in
    rw (p.1, p.2)
    (λ _. (more ++ take c.in-Ok.count c.read_some.new.buf, Consumes-trans _ _ _ more _ taken c.in-Ok.ensures.taken))
