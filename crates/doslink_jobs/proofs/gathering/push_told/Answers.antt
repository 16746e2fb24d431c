use Rattle.std.proofs.Common.{◌++◌, ◌∙◌, ap}
use Rattle.doslink_telling.specs.Lines.{absent_line}
use Rattle.doslink_telling.proofs.Texts.{all-more}
use Rattle.doslink_jobs.specs.inside.Absent.{absent_warning, library_said}
use Rattle.doslink_jobs.proofs.gathering.push_told.Goals as goal

pub loop-library-preserved : goal.loop-library-preserved
loop-library-preserved g c =
    all-more (λ one. absent_warning (library_said one)) c.args.told.now c.loop-library.library-index _
    c.loop-library.lines.items c.push_absent_line.new.lines.items _ c.loop-library-test.true
    (c.in_ok-push_absent_line.ensures ∙ ap (λ w. c.loop-library.lines.items
    ++ absent_line c.library-item.result.name.now w) c.deref.ensures.value
    ∙ ap (λ one. c.loop-library.lines.items ++ absent_warning (library_said one)) c.library-item.is)
    c.loop-library.invariant
