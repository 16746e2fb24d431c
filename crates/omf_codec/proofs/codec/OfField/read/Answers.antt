use Rattle.std.proofs.lemmas.Result.{err_from_is_err_and}
use Rattle.omf_codec.proofs.Parts.{made_err}
use Rattle.omf_codec.proofs.codec.OfField.read.Goals as goal

pub returns-in_err-parts : goal.returns-in_err-parts
returns-in_err-parts g c =
    let p = err_from_is_err_and c.from_residual.result c.from_residual.ensures.1 in
    let n = c.args.number in
    rw (p.1, p.2)
    (made_err (g.P.Codec.format n) (g.met.P.Free.free n) (g.T.Made.format n) (g.met.T.Made.is_made n) c.args.bytes.now _
    c.in_err-parts.ensures)
