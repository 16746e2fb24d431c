use Rattle.std.proofs.Common.{◌≡◌, drop, take, map}
use Rattle.omf_extended.specs.View.{wide_block_view}
use Rattle.omf_record.specs.Record.{blocks_of}
use Rattle.omf_record.specs.View.{block_view}
use Rattle.omf_plain.specs.Data.{have_word_counts}
use Rattle.omf_plain.proofs.repeated.+plain_blocks.Given as goal

-- the counts of those before have 16 bits, and these say the same
abbrev pub invariant-loop-block : goal.invariant-loop-block
invariant-loop-block g l = record {
  counts : have_word_counts (blocks_of (map wide_block_view l.wide))
      ≡ have_word_counts (blocks_of (map wide_block_view (drop l.block-index l.wide)));
  says : map block_view l.all.items ≡ map wide_block_view (take l.block-index l.wide);
}
