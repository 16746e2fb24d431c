use Rattle.std.proofs.Common.{true}
use Rattle.std.proofs.lemmas.Result.{err_from_is_err_and}
use Rattle.omf_codec.proofs.Parts.{both_found, first_err, second_err}
use Rattle.omf_codec.specs.inside.Numbers.{double, number_lawful}
use Rattle.omf_extended.specs.inside.Repeated.{content, content_blank}
use Rattle.omf_extended.proofs.repeated.read_placed.Goals as goal

pub returns-in_err-offset-clause-reads : goal.returns-in_err-offset-clause-reads
returns-in_err-offset-clause-reads g c =
    let p = err_from_is_err_and c.from_residual.result c.from_residual.ensures.1 in
    rw (p.1, p.2)
    (first_err double (number_lawful true) (λ r. tt) (λ x. content) content.Ends (λ x. content_blank) c.args.bytes.now _
    c.in_err-offset.ensures)

pub returns-in_err-blocks-clause-reads : goal.returns-in_err-blocks-clause-reads
returns-in_err-blocks-clause-reads g c =
    let p = err_from_is_err_and c.from_residual-in_err-blocks.result c.from_residual-in_err-blocks.ensures.1 in
    rw (p.1, p.2)
    (second_err double (number_lawful true) (λ r. tt) (λ x. content) content.Ends (λ x. content_blank) (λ x rest e. e)
    c.args.bytes.now _ _ _ c.in_ok-offset.ensures c.in_err-blocks.ensures.reads)

pub returns-clause-reads : goal.returns-clause-reads
returns-clause-reads g c =
    both_found double (number_lawful true) (λ r. tt) (λ x. content) content.Ends c.args.bytes.now _ _ _ _
    c.in_ok-offset.ensures c.in_ok-blocks.ensures.reads (λ e. e)
