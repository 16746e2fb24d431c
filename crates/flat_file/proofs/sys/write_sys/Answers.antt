use Rattle.std.proofs.Common.{Bool, Ok, Err, ap, refl}
use Rattle.std.specs.Bool.{then_some}
use Rattle.flat_file.specs.declared.fault.FormFault.TheVariants.{Relocated}
use Rattle.flat_file.specs.declared.fault.FlatFault.TheVariants.{Device, Form}
use Rattle.flat_file.specs.Forms.{bin_bytes, sys_bytes, sys_fault}
use Rattle.flat_file.proofs.Choosing.{some_there, none_there}
use Rattle.flat_file.proofs.Locating.{at_any}
use Rattle.flat_file.proofs.Refusing.{let_through, refused}
use Rattle.flat_file.proofs.sys.write_sys.Goals as goal

pub returns-then-not-is_empty : goal.returns-then-not-is_empty
returns-then-not-is_empty g c =
    let p = c.args.program.now in
    let there = some_there p.relocations c.relocations.result.now c.is_empty.result c.is_empty.ensures
    c.relocations.ensures c.if-not-is_empty.true in
    refused {X = Unit {0}} g.K.Sink.written g.K.Sink.failures c.args.sink.now c.args.sink.now (sys_fault p)
    (sys_bytes p)
    (Err (Form Relocated)) Relocated (ap (λ (b : Bool). then_some b Relocated) there) refl refl refl

pub returns-in-Ok : goal.returns-in-Ok
returns-in-Ok g c =
    let p = c.args.program.now in
    let none = none_there p.relocations c.relocations.result.now c.is_empty.result c.is_empty.ensures
    c.relocations.ensures c.if-not-is_empty.false in
    let_through {X = Unit {0}} g.K.Sink.written g.K.Sink.failures c.args.sink.now c.write_bin.new.sink (sys_fault p)
    (sys_bytes p) (Ok (tt {0})) (bin_bytes 0 0 p) (ap (λ (b : Bool). then_some b Relocated) none) (at_any 0 0 p none)
    (tt {0})
    c.in-Ok.ensures

pub returns-in-Err : goal.returns-in-Err
returns-in-Err g c =
    let p = c.args.program.now in
    let none = none_there p.relocations c.relocations.result.now c.is_empty.result c.is_empty.ensures
    c.relocations.ensures c.if-not-is_empty.false in
    let_through {X = Unit {0}} g.K.Sink.written g.K.Sink.failures c.args.sink.now c.write_bin.new.sink (sys_fault p)
    (sys_bytes p) (Err Device) (bin_bytes 0 0 p) (ap (λ (b : Bool). then_some b Relocated) none) (at_any 0 0 p none)
    refl
    c.in-Err.ensures
