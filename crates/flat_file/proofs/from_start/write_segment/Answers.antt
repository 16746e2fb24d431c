use Rattle.std.proofs.Common.{◌≡◌, ◌∙◌, Bool, Err, None, Option, ap, refl, subst, sym}
use Rattle.std.specs.Bool.{then_some}
use Rattle.flat_file.specs.declared.fault.FlatFault.TheVariants.{Form}
use Rattle.flat_file.specs.declared.fault.FormFault.{FormFault}
use Rattle.flat_file.specs.declared.fault.FormFault.TheVariants.{Relocated}
use Rattle.flat_file.specs.Forms.{one_segment_fault, sys_bytes, sys_fault}
use Rattle.flat_file.specs.Writing.{WritesForm}
use Rattle.flat_file.proofs.Choosing.{segment_fits}
use Rattle.flat_file.proofs.Refusing.{refused}
use Rattle.flat_file.proofs.from_start.write_segment.Goals as goal

pub returns-in-Some : goal.returns-in-Some
returns-in-Some g c =
    let p = c.args.program.now in
    refused {X = Unit {0}} g.K.Sink.written g.K.Sink.failures c.args.sink.now c.args.sink.now
    (one_segment_fault c.args.layout.now c.args.modules.now p) (sys_bytes p) (Err (Form c.in-Some.fault))
    c.in-Some.fault (sym c.one_segment_fault.ensures ∙ c.in-Some.is) refl refl refl

pub returns-in-None : goal.returns-in-None
returns-in-None g c =
    let p = c.args.program.now in
    let none : one_segment_fault c.args.layout.now c.args.modules.now p ≡ None =
    sym c.one_segment_fault.ensures ∙ c.in-None.is in
    let fits = segment_fits c.args.layout.now c.args.modules.now p none in
    let driver : sys_fault p ≡ None = ap (λ (b : Bool). then_some b Relocated) fits.0 in
    subst
    (λ (o : Option FormFault). WritesForm {X = Unit {0}} g.K.Sink.written g.K.Sink.failures c.args.sink.now
    c.write_sys.new.sink o (sys_bytes p) c.write_sys.result)
    (driver ∙ sym none) c.write_sys.ensures
