use Rattle.std.proofs.Common.{Some, Ok, ap, refl, subst}
use Rattle.flat_file.specs.Forms.{bin_bytes, raw_fault}
use Rattle.doslink_link.specs.inside.Making.{Makes}
use Rattle.doslink_link.proofs.Forming.{IsUnmade, made_err, made_ok}
use Rattle.doslink_link.proofs.forms.raw_file.Goals as goal

pub returns-in-Ok : goal.returns-in-Ok
returns-in-Ok g c =
    let r = c.args.report.now in
    let page = c.write_raw.new.sink in
    let file = bin_bytes c.args.paragraph c.args.from r.program in
    subst (λ ms. Makes (λ file. file.items) (raw_fault c.args.from r.layout ms) file (Ok page.bytes))
    c.deref.ensures.value
    (made_ok (Unit {0}) (λ s. Some s.bytes.items) (λ s. s.failures) c.new-page.result page file (λ file. file.items)
    (raw_fault c.args.from r.layout c.deref.result.now) page.bytes (tt {0}) (ap Some c.new-page.ensures.empty) refl
    c.in-Ok.ensures)

pub returns-in-Err : goal.returns-in-Err
returns-in-Err g c =
    let r = c.args.report.now in
    subst (λ ms. IsUnmade (raw_fault c.args.from r.layout ms) c.in-Err.fault) c.deref.ensures.value
    (made_err (Unit {0}) (λ s. Some s.bytes.items) (λ s. s.failures) c.new-page.result c.write_raw.new.sink
    (bin_bytes c.args.paragraph c.args.from r.program) (raw_fault c.args.from r.layout c.deref.result.now)
    c.in-Err.fault c.in-Err.ensures)
