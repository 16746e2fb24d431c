use Rattle.std.proofs.Common.{rules, ◌<◌, length}
use Rattle.mz_text.specs.Program.{word_line}
use Rattle.mz_text.specs.inside.Words.{word_said}
use Rattle.mz_text.proofs.Texts.{all-more, all-said}
use Rattle.mz_text.proofs.program.push_words.Goals as goal

pub loop-word-preserved : goal.loop-word-preserved
loop-word-preserved g c =
    let here : c.loop-word.word-index < length c.args.words.now = search rules in
    all-more (λ w. word_line (word_said w)) c.args.words.now c.loop-word.word-index _
    c.loop-word.lines.items _ _ here c.in_ok-push_word.ensures c.loop-word.invariant

pub returns : goal.returns
returns g c =
    all-said word_line word_said c.args.words.now c.loop-word.word-index
    c.loop-word.lines.items c.args.lines.now.items c.loop-word-test.false c.loop-word.invariant
