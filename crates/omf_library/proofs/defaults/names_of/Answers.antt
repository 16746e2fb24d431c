use Rattle.omf_library.proofs.Indexes.{names-turn}
use Rattle.omf_library.proofs.defaults.names_of.Goals as goal

pub loop-one-preserved : goal.loop-one-preserved
loop-one-preserved g c = λ q.
    names-turn c.args.marked.now c.loop-one.one-index _ q.now _ _ c.loop-one-test.true (c.loop-one.invariant q)
    (c.in_ok-insert.ensures.updates.0 q)
