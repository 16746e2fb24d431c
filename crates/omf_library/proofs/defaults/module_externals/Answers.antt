use Rattle.std.proofs.Common.{arith}
use Rattle.omf_frame.specs.Lending.{plain_frame}
use Rattle.omf_library.specs.Names.{texts}
use Rattle.omf_library.specs.Said.{externals_said}
use Rattle.omf_library.specs.Defaults.{record_externals}
use Rattle.omf_library.proofs.Gathering.{said-end, said-turn}
use Rattle.omf_library.proofs.defaults.module_externals.Goals as goal

pub loop-frame-preserved : goal.loop-frame-preserved
loop-frame-preserved g c =
    said-turn record_externals plain_frame c.args.frames.now c.loop-frame.frame-index c.frame-item.result
    (texts c.loop-frame.listed.items) _ (externals_said c.loop-frame.externals.items) _ _ c.loop-frame-test.true
    c.frame-item.is c.loop-frame.invariant (rw c.deref.ensures.value at c.in_ok-push_externals.ensures)
    c.in_ok-push_listed.ensures

pub returns : goal.returns
returns g c =
    said-end record_externals plain_frame c.args.frames.now c.loop-frame.frame-index (texts c.loop-frame.listed.items)
    (externals_said c.loop-frame.externals.items) _ (omega arith) c.loop-frame.invariant
