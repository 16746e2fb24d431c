use Rattle.std.proofs.Common.{◌≡◌, ◌∙◌, Err, ap, rules, sym}
use Rattle.makefile_words.specs.inside.Lines.{line_of}
use Rattle.makefile_words.specs.inside.Tokens.{pieces}
use Rattle.makefile_words.proofs.LinesLemmas.{rest_fault, rest_none, rest_ok}
use Rattle.makefile_words.proofs.lines.read_rest.Goals as goal

pub returns-in_err-line : goal.returns-in_err-line
returns-in_err-line c =
    let is : c.from_residual-in_err-line.result ≡ Err c.in_err-line.field-0.0 = search rules in
    rest_fault c.args.language c.args.total c.args.text.now (line_of c.args.said) _ c.in_err-line.field-0.0 _ is
    (ap pieces c.as_slice.ensures.value ∙ c.in_ok-tokens.ensures) c.in_err-line.ensures

pub returns-then-has_object : goal.returns-then-has_object
returns-then-has_object c =
    rest_ok c.args.language c.args.total c.args.text.now (line_of c.args.said) (line_of c.in_ok-line.line) _
    (ap pieces c.as_slice.ensures.value ∙ c.in_ok-tokens.ensures) c.in_ok-line.ensures
    (sym c.has_object.ensures ∙ c.if-has_object.true)

pub returns : goal.returns
returns c =
    rest_none c.args.language c.args.total c.args.text.now (line_of c.args.said) (line_of c.in_ok-line.line) _
    (ap pieces c.as_slice.ensures.value ∙ c.in_ok-tokens.ensures) c.in_ok-line.ensures
    (sym c.has_object.ensures ∙ c.if-has_object.false)
