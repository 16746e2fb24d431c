use Rattle.std.proofs.Common.{◌+◌, ◌≤◌, drop, map}
use Rattle.omf_record.specs.declared.content.Found.{Found}
use Rattle.omf_record.specs.Record.{blocks_of}
use Rattle.omf_record.specs.View.{block_view}
use Rattle.omf_record.specs.Expansion.{all_stored_len, all_contents_at}
use Rattle.omf_record.specs.inside.Searching.{Finds}
use Rattle.omf_record.proofs.content.+find.Given as goal

abbrev pub invariant-find_in_blocks-loop-block : goal.invariant-find_in_blocks-loop-block
invariant-find_in_blocks-loop-block g l = record {
  before : l.inner ≤ l.at;
  goes_on : (z : Found)
      → Finds l.at l.width (l.inner + all_stored_len (blocks_of (map block_view (drop l.block-index l.blocks))))
      (all_contents_at l.inner (blocks_of (map block_view (drop l.block-index l.blocks)))) z
      → Finds l.at l.width (l.place + all_stored_len (blocks_of (map block_view l.blocks)))
      (all_contents_at l.place (blocks_of (map block_view l.blocks))) z;
}
