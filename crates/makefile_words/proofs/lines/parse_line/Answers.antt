use Rattle.std.proofs.Common.{◌≡◌, Err, rules}
use Rattle.makefile_words.specs.Lines.{meaning}
use Rattle.makefile_words.proofs.LinesLemmas.{means_fault, means_ok}
use Rattle.makefile_words.proofs.lines.parse_line.Goals as goal

pub returns-in_err-read_line : goal.returns-in_err-read_line
returns-in_err-read_line c =
    let is : c.from_residual.result ≡ Err c.in_err-read_line.field-0.0 = search rules in
    means_fault c.args.language (meaning c.args.language c.args.front.now c.args.text.now)
    c.in_err-read_line.field-0.0 _ is
    c.in_err-read_line.ensures

pub returns : goal.returns
returns c =
    means_ok c.args.language (meaning c.args.language c.args.front.now c.args.text.now) _ c.job_of.result
    c.in_ok-read_line.ensures
    c.job_of.ensures
