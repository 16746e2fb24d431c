use Rattle.std.proofs.Common.{refl}
use Rattle.omf_image.proofs.overflow.overflow_of.Goals as goal

pub loop-fixup-init : goal.loop-fixup-init
loop-fixup-init g c = refl

pub overflows-requires-clause-lengths : goal.overflows-requires-clause-lengths
overflows-requires-clause-lengths g c = c.requires.lengths

pub overflows-requires-clause-input : goal.overflows-requires-clause-input
overflows-requires-clause-input g c = c.requires.ready.input

pub overflows-requires-clause-segment : goal.overflows-requires-clause-segment
overflows-requires-clause-segment g c = c.requires.ready.segment

pub overflows-requires-clause-fixup : goal.overflows-requires-clause-fixup
overflows-requires-clause-fixup g c =
    c.requires.ready.fixups c.loop-fixup.fixup-index _ c.loop-fixup-test.true
