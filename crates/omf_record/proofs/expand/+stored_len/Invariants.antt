use Rattle.std.proofs.Common.{◌≡◌, ◌+◌, drop, map}
use Rattle.omf_record.specs.Expansion.{all_stored_len}
use Rattle.omf_record.specs.Record.{blocks_of}
use Rattle.omf_record.specs.View.{block_view}
use Rattle.omf_record.proofs.expand.+stored_len.Given as goal

abbrev pub invariant-blocks_stored_len-loop-block : goal.invariant-blocks_stored_len-loop-block
invariant-blocks_stored_len-loop-block g l =
    l.len + all_stored_len (blocks_of (map block_view (drop l.block-index l.blocks)))
    ≡ all_stored_len (blocks_of (map block_view l.blocks))
