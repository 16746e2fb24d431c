use Rattle.std.proofs.lemmas.Result.{err_from_is_err_and}
use Rattle.omf_codec.proofs.Parts.{both_found, first_err, second_err}
use Rattle.omf_codec.proofs.codec.Tuple2Field.read.Goals as goal

pub returns-in_err-first : goal.returns-in_err-first
returns-in_err-first g c =
    let p = err_from_is_err_and c.from_residual.result c.from_residual.ensures.1 in
    let n = c.args.number in
    rw (p.1, p.2)
    (first_err (g.F.Codec.format n) (g.met.F.Codec.lawful n) (g.met.F.Free.free n) (λ x. g.G.Codec.format n)
    (g.G.Codec.format n).Ends (λ x. g.met.G.Blank.blank n) c.args.bytes.now _ c.in_err-first.ensures)

pub returns-in_err-second : goal.returns-in_err-second
returns-in_err-second g c =
    let p = err_from_is_err_and c.from_residual-in_err-second.result c.from_residual-in_err-second.ensures.1 in
    let n = c.args.number in
    rw (p.1, p.2)
    (second_err (g.F.Codec.format n) (g.met.F.Codec.lawful n) (g.met.F.Free.free n) (λ x. g.G.Codec.format n)
    (g.G.Codec.format n).Ends (λ x. g.met.G.Blank.blank n) (λ x rest e. e) c.args.bytes.now
    _ _ _ c.in_ok-first.ensures c.in_err-second.ensures)

pub returns : goal.returns
returns g c =
    let n = c.args.number in
    both_found (g.F.Codec.format n) (g.met.F.Codec.lawful n) (g.met.F.Free.free n) (λ x. g.G.Codec.format n)
    (g.G.Codec.format n).Ends c.args.bytes.now _ _ _ _ c.in_ok-first.ensures c.in_ok-second.ensures (λ e. e)
