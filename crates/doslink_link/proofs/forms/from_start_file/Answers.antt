use Rattle.std.proofs.Common.{Some, Ok, ap, refl, subst}
use Rattle.flat_file.specs.Forms.{from_start_bytes, from_start_fault}
use Rattle.doslink_link.specs.inside.Making.{Makes}
use Rattle.doslink_link.proofs.Forming.{IsUnmade, made_err, made_ok}
use Rattle.doslink_link.proofs.forms.from_start_file.Goals as goal

pub returns-in-Ok : goal.returns-in-Ok
returns-in-Ok g c =
    let r = c.args.report.now in
    let page = c.write_from_start.new.sink in
    let file = from_start_bytes r.program in
    subst (λ ms. Makes (λ file. file.items) (from_start_fault r.layout ms r.program) file (Ok page.bytes))
    c.deref.ensures.value
    (made_ok (Unit {0}) (λ s. Some s.bytes.items) (λ s. s.failures) c.new-page.result page file
    (λ file. file.items) (from_start_fault r.layout c.deref.result.now r.program) page.bytes (tt {0})
    (ap Some c.new-page.ensures.empty) refl c.in-Ok.ensures)

pub returns-in-Err : goal.returns-in-Err
returns-in-Err g c =
    let r = c.args.report.now in
    subst (λ ms. IsUnmade (from_start_fault r.layout ms r.program) c.in-Err.fault) c.deref.ensures.value
    (made_err (Unit {0}) (λ s. Some s.bytes.items) (λ s. s.failures) c.new-page.result c.write_from_start.new.sink
    (from_start_bytes r.program) (from_start_fault r.layout c.deref.result.now r.program) c.in-Err.fault
    c.in-Err.ensures)
