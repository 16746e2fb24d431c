use Rattle.std.proofs.Common.{◌≡◌, ◌+◌, ◌++◌, length, take, drop, map}
use Rattle.omf_record.specs.Record.{blocks_of}
use Rattle.omf_record.specs.View.{block_view}
use Rattle.omf_record.specs.Expansion.{all_stored_len, expansions_at, places, bytes}
use Rattle.omf_record.proofs.expand.+expand.Given as goal

abbrev pub invariant-expand_all-loop-block : goal.invariant-expand_all-loop-block
invariant-expand_all-loop-block g l = record {
  short : l.inner + all_stored_len (blocks_of (map block_view (drop l.block-index l.blocks)))
      ≡ l.place + all_stored_len (blocks_of (map block_view l.blocks));
  len : l.at + length (expansions_at l.inner (blocks_of (map block_view (drop l.block-index l.blocks))))
      ≡ length (expansions_at l.place (blocks_of (map block_view l.blocks)));
  laid : take l.at l.bytes ++ bytes (expansions_at l.inner (blocks_of (map block_view (drop l.block-index l.blocks))))
      ≡ bytes (expansions_at l.place (blocks_of (map block_view l.blocks)));
  numbered : take l.at l.stored
      ++ places (expansions_at l.inner (blocks_of (map block_view (drop l.block-index l.blocks))))
      ≡ places (expansions_at l.place (blocks_of (map block_view l.blocks)));
}
