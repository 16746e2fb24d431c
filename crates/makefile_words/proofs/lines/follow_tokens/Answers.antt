use Rattle.std.proofs.Common.{◌<◌, ◌≤◌, ◌∙◌, arith, length, refl}
use Rattle.std.proofs.lemmas.List.{length-map}
use Rattle.makefile_words.specs.inside.Lines.{line_of}
use Rattle.makefile_words.specs.inside.Tokens.{pieces, placed_of}
use Rattle.makefile_words.proofs.LinesLemmas.{token_here, tokens_end, tokens_more, tokens_stop}
use Rattle.makefile_words.proofs.lines.follow_tokens.Goals as goal

pub tokens-init : goal.tokens-init
tokens-init c = refl

pub tokens-preserved : goal.tokens-preserved
tokens-preserved c =
    let inside : c.tokens.placed-index < length (pieces c.args.tokens.now) =
    omega (arith, length-map c.args.tokens.now placed_of) in
    c.tokens.invariant
    ∙ tokens_more c.args.part c.args.language _ _ (pieces c.args.tokens.now) c.tokens.placed-index _ inside
    (token_here c.args.tokens.now c.tokens.placed-index _ (omega arith)) c.in-Ok.ensures

pub returns-in-Err : goal.returns-in-Err
returns-in-Err c =
    let inside : c.tokens.placed-index < length (pieces c.args.tokens.now) =
    omega (arith, length-map c.args.tokens.now placed_of) in
    tokens_stop c.args.part c.args.language (line_of c.tokens.line) _ (pieces c.args.tokens.now) c.tokens.placed-index _
    c.in-Err.fault c.fault_at.result _ inside
    (token_here c.args.tokens.now c.tokens.placed-index _ (omega arith)) c.in-Err.ensures c.fault_at.ensures
    c.tokens.invariant

pub returns : goal.returns
returns c =
    let past : length (pieces c.args.tokens.now) ≤ c.tokens.placed-index =
    omega (arith, length-map c.args.tokens.now placed_of) in
    c.tokens.invariant
    ∙ tokens_end c.args.part c.args.language (line_of c.tokens.line) (pieces c.args.tokens.now) c.tokens.placed-index past
