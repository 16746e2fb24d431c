use Rattle.std.proofs.lemmas.Result.{err_from_is_err_and}
use Rattle.omf_codec.proofs.Parts.{both_found, first_err, second_err}
use Rattle.omf_codec.proofs.choice.ThenField.read.Goals as goal

pub returns-in_err-first : goal.returns-in_err-first
returns-in_err-first g c =
    let p = err_from_is_err_and c.from_residual.result c.from_residual.ensures.1 in
    let n = c.args.number in
    let h = g.N.Codec.format n in
    rw (p.1, p.2)
    (first_err h (g.met.N.Codec.lawful n) (g.met.N.Free.free n) (λ x. g.F.Codec.format (h.number x)) (λ rest. Unit {0})
    (λ x. g.met.F.Blank.blank (h.number x)) c.args.bytes.now _ c.in_err-first.ensures)

pub returns-in_err-second : goal.returns-in_err-second
returns-in_err-second g c =
    let p = err_from_is_err_and c.from_residual-in_err-second.result c.from_residual-in_err-second.ensures.1 in
    let n = c.args.number in
    let h = g.N.Codec.format n in
    rw (p.1, p.2)
    (second_err h (g.met.N.Codec.lawful n) (g.met.N.Free.free n) (λ x. g.F.Codec.format (h.number x)) (λ rest. Unit {0})
    (λ x. g.met.F.Blank.blank (h.number x)) (λ x rest e. g.met.F.Free.free (h.number x) rest) c.args.bytes.now
    (h.view c.in_ok-first.first) _ _ c.in_ok-first.ensures (rw (c.number.ensures n) at c.in_err-second.ensures))

pub returns : goal.returns
returns g c =
    let n = c.args.number in
    let h = g.N.Codec.format n in
    (both_found h (g.met.N.Codec.lawful n) (g.met.N.Free.free n) (λ x. g.F.Codec.format (h.number x)) (λ rest. Unit {0})
    c.args.bytes.now (h.view c.in_ok-first.first) _ _ _ c.in_ok-first.ensures
    (rw (c.number.ensures n) at c.in_ok-second.ensures) (λ e. tt))
