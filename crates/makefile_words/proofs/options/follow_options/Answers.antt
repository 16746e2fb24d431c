use Rattle.std.proofs.Common.{◌≡◌, ◌<◌, ◌≤◌, ◌∙◌, Err, arith, length, rules}
use Rattle.std.proofs.lemmas.List.{length-map}
use Rattle.doslink_words.specs.Tokens.{texts}
use Rattle.makefile_words.specs.inside.Lines.{line_of}
use Rattle.makefile_words.proofs.LinesLemmas.{options_end, options_fault, options_more, text_here}
use Rattle.makefile_words.proofs.options.follow_options.Goals as goal

pub options-preserved : goal.options-preserved
options-preserved c =
    let inside : c.options.option-index < length (texts c.args.options.now) =
    omega (arith, length-map c.args.options.now (λ s. s.now)) in
    c.options.invariant
    ∙ options_more c.args.place c.args.language _ _ (texts c.args.options.now) c.options.option-index _ inside
    (text_here c.args.options.now c.options.option-index _ (omega arith)) c.in_ok-follow_option.ensures

pub returns-in_err-follow_option : goal.returns-in_err-follow_option
returns-in_err-follow_option c =
    let inside : c.options.option-index < length (texts c.args.options.now) =
    omega (arith, length-map c.args.options.now (λ s. s.now)) in
    let is : c.from_residual.result ≡ Err c.in_err-follow_option.field-0.0 = search rules in
    options_fault c.args.place c.args.language _ _ _ (texts c.args.options.now) c.options.option-index _ _
    c.in_err-follow_option.field-0.0 _ inside
    (text_here c.args.options.now c.options.option-index _ (omega arith)) c.in_err-follow_option.ensures is
    c.options.invariant

pub returns : goal.returns
returns c =
    let past : length (texts c.args.options.now) ≤ c.options.option-index =
    omega (arith, length-map c.args.options.now (λ s. s.now)) in
    c.options.invariant
    ∙ options_end c.args.place c.args.language (line_of c.options.line) (texts c.args.options.now)
    c.options.option-index past
