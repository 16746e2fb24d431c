use Rattle.std.proofs.Common.{◌<◌, ◌≤◌, ◌∙◌, ap, arith, length}
use Rattle.std.proofs.Math.ListN.{drop_of_length-le}
use Rattle.std.proofs.lemmas.List.{length-map}
use Rattle.doslink_words.specs.Places.{with_lines}
use Rattle.doslink_words.specs.Tokens.{texts}
use Rattle.doslink_words.specs.inside.Tokens.{all_placed}
use Rattle.doslink_words.proofs.PartsLemmas.{line_here, lines_more, lines_stop}
use Rattle.doslink_words.proofs.directives.put_lines.Goals as goal

pub loop-index-preserved : goal.loop-index-preserved
loop-index-preserved c =
    let inside : c.loop-index.index < length (texts c.args.lines.now) =
    omega (arith, length-map c.args.lines.now (λ s. s.now)) in
    c.loop-index.invariant
    ∙ lines_more (all_placed c.loop-index.tokens.items) (all_placed c.put_tokens.new.tokens.items)
    (texts c.args.lines.now) c.loop-index.index _ inside
    (line_here c.args.lines.now c.loop-index.index _ (omega arith)) c.in-Ok.ensures

pub returns-in-Err : goal.returns-in-Err
returns-in-Err c =
    let inside : c.loop-index.index < length (texts c.args.lines.now) =
    omega (arith, length-map c.args.lines.now (λ s. s.now)) in
    lines_stop (all_placed c.loop-index.tokens.items) _ (texts c.args.lines.now) c.loop-index.index _ c.in-Err.fault
    c.fault_at.result _ inside
    (line_here c.args.lines.now c.loop-index.index _ (omega arith)) c.in-Err.ensures c.fault_at.ensures
    c.loop-index.invariant

pub returns : goal.returns
returns c =
    let lines = texts c.args.lines.now in
    let past : length lines ≤ c.loop-index.index = omega (arith, length-map c.args.lines.now (λ s. s.now)) in
    c.loop-index.invariant
    ∙ ap (λ ls. with_lines c.loop-index.index ls (all_placed c.loop-index.tokens.items)) (drop_of_length-le lines past)
