use Rattle.omf_faults.proofs.Telling.{Told-cut, Told-then}
use Rattle.omf_faults.proofs.lines.put_program_line.Goals as goal

pub returns-in_err-put_line_start : goal.returns-in_err-put_line_start
returns-in_err-put_line_start g c =
    Told-cut _ _ _ _ _ c.args.program.now _ _ _ c.in_err-put_line_start.ensures c.from_residual.ensures.1

pub returns : goal.returns
returns g c =
    Told-then _ _ _ _ _ _ c.args.program.now _ _ _ c.in_ok-put_line_start.ensures c.put_name_end.ensures
