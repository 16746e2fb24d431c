use Rattle.omf_faults.proofs.Telling.{Told-cut, Told-then}
use Rattle.omf_faults.proofs.lines.put_record_line.Goals as goal

pub returns-in_err-put_line_front : goal.returns-in_err-put_line_front
returns-in_err-put_line_front g c =
    Told-cut _ _ _ _ _ c.args.program.now _ _ _ c.in_err-put_line_front.ensures c.from_residual.ensures.1

pub returns : goal.returns
returns g c =
    Told-then _ _ _ _ _ _ c.args.program.now _ _ _ c.in_ok-put_line_front.ensures c.put_line_end.ensures
