use Rattle.std.proofs.Common.{◌<◌, ◌∙◌, arith, length}
use Rattle.std.proofs.lemmas.List.{length-map}
use Rattle.doslink_words.specs.Tokens.{texts}
use Rattle.doslink_words.proofs.NamedLemmas.{spaced_more}
use Rattle.doslink_words.proofs.PartsLemmas.{line_here}
use Rattle.doslink_words.proofs.responses.spaced.Goals as goal

pub words-preserved : goal.words-preserved
words-preserved c =
    let inside : c.words.word-index < length (texts c.args.words.now) =
    omega (arith, length-map c.args.words.now (λ s. s.now)) in
    c.words.invariant
    ∙ spaced_more (texts c.args.words.now) c.words.word-index _ _ _ _ inside
    (line_here c.args.words.now c.words.word-index _ (omega arith)) c.in_ok-push_str.ensures.bytes
    c.in_ok-push_str-2.ensures.bytes
