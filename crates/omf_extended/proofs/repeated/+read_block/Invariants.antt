use Rattle.std.proofs.Common.{◌≡◌, ◌-◌, length, map}
use Rattle.omf_codec.proofs.Lists.{SoFar}
use Rattle.omf_extended.specs.View.{wide_block_view}
use Rattle.omf_extended.specs.inside.Repeated.{block}
use Rattle.omf_extended.proofs.repeated.+read_block.Given as goal

abbrev pub decreases-read_block : goal.decreases-read_block
decreases-read_block g l = l.below

abbrev pub invariant-loop : goal.invariant-loop
invariant-loop g l =
    (length l.blocks.items ≡ l.counter)
    × SoFar (block (l.below - 1)) l.initial.rest (map wide_block_view l.blocks.items) l.rest
