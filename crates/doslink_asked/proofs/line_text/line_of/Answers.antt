use Rattle.std.proofs.Common.{◌∙◌, ap, arith, string_bytes}
use Rattle.std.proofs.lemmas.List.{take_all}
use Rattle.doslink_words.specs.Tokens.{texts}
use Rattle.doslink_asked.specs.Lines.{line_of}
use Rattle.doslink_asked.proofs.LineTexts.{line-next}
use Rattle.doslink_asked.proofs.line_text.line_of.Goals as goal

pub loop-word-init : goal.loop-word-init
loop-word-init c = c.new-text.ensures.bytes

pub loop-word-preserved : goal.loop-word-preserved
loop-word-preserved c =
    line-next c.args.words.now c.loop-word.word-index _ (string_bytes c.loop-word.text)
    (string_bytes c.push_word.new.text) (string_bytes c.push_str.new.self) c.loop-word-test.true
    c.in_ok-push_word.ensures c.in_ok-push_str.ensures.bytes c.loop-word.invariant

pub returns : goal.returns
returns c =
    c.loop-word.invariant
    ∙ ap (λ ws. line_of (texts ws)) (take_all c.loop-word.word-index c.args.words.now (omega arith))
