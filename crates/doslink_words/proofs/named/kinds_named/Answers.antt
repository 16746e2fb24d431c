use Rattle.std.proofs.Common.{◌<◌, ◌∙◌, arith, length}
use Rattle.std.proofs.lemmas.List.{length-map}
use Rattle.doslink_words.specs.Tokens.{texts}
use Rattle.doslink_words.proofs.NamedLemmas.{kinds_more}
use Rattle.doslink_words.proofs.PartsLemmas.{line_here}
use Rattle.doslink_words.proofs.named.kinds_named.Goals as goal

pub words-preserved : goal.words-preserved
words-preserved c =
    let inside : c.words.word-index < length (texts c.args.words.now) =
    omega (arith, length-map c.args.words.now (λ s. s.now)) in
    c.words.invariant
    ∙ kinds_more c.words.expected (texts c.args.words.now) c.words.word-index _ c.word_met-met.result _ _ inside
    (line_here c.args.words.now c.words.word-index _ (omega arith)) c.word_met-met.ensures c.in_ok-put_kind.ensures
