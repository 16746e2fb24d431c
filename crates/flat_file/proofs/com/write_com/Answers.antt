use Rattle.std.proofs.Common.{◌≡◌, ◌∙◌, ℕ, None, Ok, Err, sym, ap, refl}
use Rattle.flat_file.specs.declared.fault.FlatFault.TheVariants.{Device}
use Rattle.flat_file.specs.Forms.{bin_bytes, com_bytes, com_fault}
use Rattle.flat_file.proofs.Choosing.{none_relocated}
use Rattle.flat_file.proofs.Locating.{at_any}
use Rattle.flat_file.proofs.Refusing.{let_through}
use Rattle.flat_file.proofs.com.write_com.Goals as goal

pub returns-in-Ok : goal.returns-in-Ok
returns-in-Ok g c =
    let p = c.args.program.now in
    let none : com_fault c.args.layout.now c.args.modules.now p ≡ None = sym c.com_fault.ensures ∙ c.in_default.is in
    let same : bin_bytes 0 c.from.result p ≡ com_bytes p =
    ap (λ (n : ℕ). bin_bytes 0 n p) c.from.ensures
    ∙ at_any 0 256 p (none_relocated c.args.layout.now c.args.modules.now p none) in
    let_through {X = Unit {0}} g.K.Sink.written g.K.Sink.failures c.args.sink.now c.write_bin.new.sink
    (com_fault c.args.layout.now c.args.modules.now p) (com_bytes p) (Ok (tt {0})) (bin_bytes 0 c.from.result p) none
    same
    (tt {0}) c.in-Ok.ensures

pub returns-in-Err : goal.returns-in-Err
returns-in-Err g c =
    let p = c.args.program.now in
    let none : com_fault c.args.layout.now c.args.modules.now p ≡ None = sym c.com_fault.ensures ∙ c.in_default.is in
    let same : bin_bytes 0 c.from.result p ≡ com_bytes p =
    ap (λ (n : ℕ). bin_bytes 0 n p) c.from.ensures
    ∙ at_any 0 256 p (none_relocated c.args.layout.now c.args.modules.now p none) in
    let_through {X = Unit {0}} g.K.Sink.written g.K.Sink.failures c.args.sink.now c.write_bin.new.sink
    (com_fault c.args.layout.now c.args.modules.now p) (com_bytes p) (Err Device) (bin_bytes 0 c.from.result p) none
    same
    refl c.in-Err.ensures
