use Rattle.std.proofs.Common.{◌≡◌, ◌+◌, ◌++◌, drop, map}
use Rattle.omf_extended.specs.View.{wide_block_view}
use Rattle.omf_record.specs.Record.{blocks_of}
use Rattle.omf_record.specs.Expansion.{all_stored_len}
use Rattle.omf_plain.specs.Data.{all_wide_contents_at, all_wide_stored_len}
use Rattle.omf_plain.specs.View.{wide_content_view}
use Rattle.omf_plain.proofs.data.+list_wide_contents.Given as goal

-- what is left ends where all end, and gives what is missing
abbrev pub invariant-loop-block : goal.invariant-loop-block
invariant-loop-block g l =
    let left = blocks_of (map wide_block_view (drop l.block-index l.blocks)) in
    let all = blocks_of (map wide_block_view l.blocks) in
    record {
      given : l.places.given + all_wide_stored_len left ≡ l.fn.places.given + all_wide_stored_len all;
      said : l.places.said + all_stored_len left ≡ l.fn.places.said + all_stored_len all;
      gives : map wide_content_view l.list.items ++ all_wide_contents_at l.places.given l.places.said left
          ≡ map wide_content_view l.fn.list.items ++ all_wide_contents_at l.fn.places.given l.fn.places.said all;
    }
