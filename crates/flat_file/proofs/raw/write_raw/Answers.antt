use Rattle.std.proofs.Common.{◌≡◌, ◌∙◌, None, Ok, Err, sym, refl}
use Rattle.flat_file.specs.declared.fault.FlatFault.TheVariants.{Device}
use Rattle.flat_file.specs.Forms.{bin_bytes, raw_fault}
use Rattle.flat_file.proofs.Refusing.{let_through}
use Rattle.flat_file.proofs.raw.write_raw.Goals as goal

pub returns-in-Ok : goal.returns-in-Ok
returns-in-Ok g c =
    let file = bin_bytes c.args.paragraph c.args.from c.args.program.now in
    let none : raw_fault c.args.from c.args.layout.now c.args.modules.now ≡ None =
    sym c.raw_fault.ensures ∙ c.in_default.is in
    let_through {X = Unit {0}} g.K.Sink.written g.K.Sink.failures c.args.sink.now c.write_bin.new.sink
    (raw_fault c.args.from c.args.layout.now c.args.modules.now) file (Ok (tt {0})) file none refl (tt {0})
    c.in-Ok.ensures

pub returns-in-Err : goal.returns-in-Err
returns-in-Err g c =
    let file = bin_bytes c.args.paragraph c.args.from c.args.program.now in
    let none : raw_fault c.args.from c.args.layout.now c.args.modules.now ≡ None =
    sym c.raw_fault.ensures ∙ c.in_default.is in
    let_through {X = Unit {0}} g.K.Sink.written g.K.Sink.failures c.args.sink.now c.write_bin.new.sink
    (raw_fault c.args.from c.args.layout.now c.args.modules.now) file (Err Device) file none refl refl
    c.in-Err.ensures
