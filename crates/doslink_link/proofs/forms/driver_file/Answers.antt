use Rattle.std.proofs.Common.{Some, ap, refl}
use Rattle.flat_file.specs.Forms.{sys_bytes, sys_fault}
use Rattle.doslink_link.proofs.Forming.{made_err, made_ok}
use Rattle.doslink_link.proofs.forms.driver_file.Goals as goal

pub returns-in-Ok : goal.returns-in-Ok
returns-in-Ok g c =
    let p = c.args.program.now in
    made_ok (Unit {0}) (λ s. Some s.bytes.items) (λ s. s.failures) c.new-page.result c.write_sys.new.sink (sys_bytes p)
    (λ file. file.items) (sys_fault p) c.write_sys.new.sink.bytes (tt {0})
    (ap Some c.new-page.ensures.empty) refl c.in-Ok.ensures

pub returns-in-Err : goal.returns-in-Err
returns-in-Err g c =
    let p = c.args.program.now in
    made_err (Unit {0}) (λ s. Some s.bytes.items) (λ s. s.failures) c.new-page.result c.write_sys.new.sink
    (sys_bytes p) (sys_fault p) c.in-Err.fault c.in-Err.ensures
