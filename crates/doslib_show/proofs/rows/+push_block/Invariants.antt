use Rattle.std.proofs.Common.{◌≡◌, ◌++◌, drop, map}
use Rattle.omf_record.specs.Record.{blocks_of}
use Rattle.omf_record.specs.View.{block_view}
use Rattle.doslib_show.specs.Rows.{blocks_text}
use Rattle.doslib_show.proofs.rows.+push_block.Given as goal

abbrev pub invariant-push_blocks-loop-block : goal.invariant-push_blocks-loop-block
invariant-push_blocks-loop-block g l =
    l.lines.items ++ blocks_text (blocks_of (map block_view (drop l.block-index l.blocks)))
    ≡ l.initial.lines.items ++ blocks_text (blocks_of (map block_view l.blocks))
