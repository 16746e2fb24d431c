use Rattle.std.proofs.Common.{◌-◌}
use Rattle.omf_record.specs.inside.Blocks.{block, block_lawful}
use Rattle.omf_codec.proofs.Lists.{Left}
use Rattle.omf_record.proofs.blocks.+put_block.Given as goal

abbrev pub decreases-put_block : goal.decreases-put_block
decreases-put_block g l = l.below

abbrev pub invariant-loop-inner : goal.invariant-loop-inner
invariant-loop-inner g l =
    Left g.O.Output.Takes g.O.Output.Refuses g.met.O.Output.is_output (block {A = g.row.A.Denot} (l.below - 1))
    (block_lawful (l.below - 1)) l.inner-items l.initial.out l.inner-index l.out
