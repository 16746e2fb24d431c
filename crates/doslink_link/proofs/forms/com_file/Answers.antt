use Rattle.std.proofs.Common.{Some, Ok, ap, refl, subst}
use Rattle.flat_file.specs.Forms.{com_bytes, com_fault}
use Rattle.doslink_link.specs.inside.Making.{Makes}
use Rattle.doslink_link.proofs.Forming.{IsUnmade, made_err, made_ok}
use Rattle.doslink_link.proofs.forms.com_file.Goals as goal

pub returns-in-Ok : goal.returns-in-Ok
returns-in-Ok g c =
    let r = c.args.report.now in
    let page = c.write_com.new.sink in
    subst (λ ms. Makes (λ file. file.items) (com_fault r.layout ms r.program) (com_bytes r.program) (Ok page.bytes))
    c.deref.ensures.value
    (made_ok (Unit {0}) (λ s. Some s.bytes.items) (λ s. s.failures) c.new-page.result page (com_bytes r.program)
    (λ file. file.items) (com_fault r.layout c.deref.result.now r.program) page.bytes (tt {0})
    (ap Some c.new-page.ensures.empty) refl c.in-Ok.ensures)

pub returns-in-Err : goal.returns-in-Err
returns-in-Err g c =
    let r = c.args.report.now in
    subst (λ ms. IsUnmade (com_fault r.layout ms r.program) c.in-Err.fault) c.deref.ensures.value
    (made_err (Unit {0}) (λ s. Some s.bytes.items) (λ s. s.failures) c.new-page.result c.write_com.new.sink
    (com_bytes r.program) (com_fault r.layout c.deref.result.now r.program) c.in-Err.fault c.in-Err.ensures)
