use Rattle.std.proofs.Common.{rules, ◌≡◌}
use Rattle.std.proofs.lemmas.Result.{err_from_is_err_and}
use Rattle.omf_codec.proofs.Parts.{when_err}
use Rattle.omf_codec.specs.inside.FormatLaws.{bits_at}
use Rattle.omf_codec.proofs.choice.WhenField.read.Goals as goal

pub returns-in_err-item : goal.returns-in_err-item
returns-in_err-item g c =
    let p = err_from_is_err_and c.from_residual.result c.from_residual.ensures.1 in
    let n = c.args.number in
    let yes : bits_at g.row.UNIT g.row.COUNT n ≡ g.row.BITS = search rules in
    rw (p.1, p.2)
    (when_err (g.F.Codec.format n) (g.met.F.Free.free n) (bits_at g.row.UNIT g.row.COUNT n ≡ g.row.BITS) yes
    c.args.bytes.now _ c.in_err-item.ensures)
