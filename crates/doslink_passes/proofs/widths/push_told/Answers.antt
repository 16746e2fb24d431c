use Rattle.doslink_telling.specs.Lines.{wide_line}
use Rattle.doslink_telling.proofs.Texts.{all-more}
use Rattle.doslink_passes.proofs.widths.push_told.Goals as goal

pub loop-word-preserved : goal.loop-word-preserved
loop-word-preserved g c =
    all-more (λ w. wide_line w.now) c.args.told.now c.loop-word.word-index _
    c.loop-word.lines.items c.push_wide_line.new.lines.items _ c.loop-word-test.true c.in_ok-push_wide_line.ensures
    c.loop-word.invariant
