use Rattle.omf_place.specs.Names.{spelled}
use Rattle.doslink_telling.proofs.Sets.{names-more}
use Rattle.doslink_telling.proofs.offering.set_of.Goals as goal

pub loop-wanted-preserved : goal.loop-wanted-preserved
loop-wanted-preserved g c = λ q.
    names-more (λ w. spelled c.args.names w.name.now) c.args.missing.now c.loop-wanted.wanted-index _ c.in_ok-name.name q _ _
    c.loop-wanted-test.true c.in_ok-name.ensures (c.loop-wanted.invariant q)
    (c.in_ok-insert.ensures.updates.0 q)
