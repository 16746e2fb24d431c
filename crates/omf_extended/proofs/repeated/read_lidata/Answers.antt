use Rattle.std.proofs.lemmas.Result.{err_from_is_err_and}
use Rattle.omf_codec.proofs.Parts.{both_found, first_err, second_err}
use Rattle.omf_codec.specs.inside.FormatLaws.{both}
use Rattle.omf_codec.specs.inside.Numbers.{double}
use Rattle.omf_codec.specs.inside.PrimitiveLaws.{index, index_lawful}
use Rattle.omf_extended.specs.inside.Repeated.{content, placed_blank}
use Rattle.omf_extended.proofs.repeated.read_lidata.Goals as goal

pub returns-in_err-segment-clause-reads : goal.returns-in_err-segment-clause-reads
returns-in_err-segment-clause-reads g c =
    let p = err_from_is_err_and c.from_residual.result c.from_residual.ensures.1 in
    rw (p.1, p.2)
    (first_err index index_lawful (λ r. tt) (λ x. both double content) content.Ends (λ x. placed_blank)
    c.args.bytes.now _ c.in_err-segment.ensures)

pub returns-in_err-placed-clause-reads : goal.returns-in_err-placed-clause-reads
returns-in_err-placed-clause-reads g c =
    let p = err_from_is_err_and c.from_residual-in_err-placed.result c.from_residual-in_err-placed.ensures.1 in
    rw (p.1, p.2)
    (second_err index index_lawful (λ r. tt) (λ x. both double content) content.Ends (λ x. placed_blank)
    (λ x rest e. e) c.args.bytes.now _ _ _ c.in_ok-segment.ensures c.in_err-placed.ensures.reads)

pub returns-clause-reads : goal.returns-clause-reads
returns-clause-reads g c =
    both_found index index_lawful (λ r. tt) (λ x. both double content) content.Ends c.args.bytes.now _ _ _ _
    c.in_ok-segment.ensures c.in_ok-placed.ensures.reads (λ e. e)
