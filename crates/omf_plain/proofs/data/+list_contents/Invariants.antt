use Rattle.std.proofs.Common.{◌≡◌, ◌+◌, ◌++◌, drop, map}
use Rattle.omf_record.specs.Record.{blocks_of}
use Rattle.omf_record.specs.View.{block_view}
use Rattle.omf_record.specs.Expansion.{all_stored_len}
use Rattle.omf_plain.specs.Data.{all_contents_at}
use Rattle.omf_plain.specs.View.{content_view}
use Rattle.omf_plain.proofs.data.+list_contents.Given as goal

-- what is left ends where all end, and gives what is missing
abbrev pub invariant-loop-block : goal.invariant-loop-block
invariant-loop-block g l =
    let left = blocks_of (map block_view (drop l.block-index l.blocks)) in
    let all = blocks_of (map block_view l.blocks) in
    record {
      ends : l.place + all_stored_len left ≡ l.fn.place + all_stored_len all;
      gives : map content_view l.list.items ++ all_contents_at l.place left
          ≡ map content_view l.fn.list.items ++ all_contents_at l.fn.place all;
    }
