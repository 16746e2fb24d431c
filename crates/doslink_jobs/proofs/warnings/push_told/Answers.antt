use Rattle.omf_communal.specs.Far.{reached_said}
use Rattle.doslink_link.specs.Linking.{bytes_of}
use Rattle.doslink_telling.proofs.Texts.{all-more}
use Rattle.doslink_jobs.specs.inside.Warnings.{reached_warning}
use Rattle.doslink_jobs.proofs.warnings.push_told.Goals as goal

pub loop-each-preserved : goal.loop-each-preserved
loop-each-preserved g c =
    all-more (λ r. reached_warning (bytes_of c.args.words.now) (reached_said r)) c.args.told.now
    c.loop-each.each-index _
    c.loop-each.lines.items c.push_one.new.lines.items _ c.loop-each-test.true c.in_ok-push_one.ensures
    c.loop-each.invariant
