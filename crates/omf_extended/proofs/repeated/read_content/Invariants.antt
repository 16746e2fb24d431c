use Rattle.std.proofs.Common.{length, map}
use Rattle.omf_codec.proofs.Lists.{SoFar}
use Rattle.omf_extended.specs.View.{wide_block_view}
use Rattle.omf_extended.specs.inside.Repeated.{block}
use Rattle.omf_extended.proofs.repeated.read_content.Given as goal

abbrev pub invariant-loop-alloc : goal.invariant-loop-alloc
invariant-loop-alloc g l = SoFar (block 63) l.bytes (map wide_block_view l.blocks.items) l.rest

abbrev pub decreases-loop-alloc : goal.decreases-loop-alloc
decreases-loop-alloc g l = length l.rest
