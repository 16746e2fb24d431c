use Rattle.std.proofs.Common.{◌≡◌, ◌+◌, map, arith}
use Rattle.std.proofs.lemmas.List.{drop_all}
use Rattle.omf_record.specs.declared.content.Found.TheVariants.{Beyond}
use Rattle.omf_record.specs.Record.{blocks_of}
use Rattle.omf_record.specs.View.{block_view}
use Rattle.omf_record.specs.Expansion.{all_stored_len}
use Rattle.omf_record.proofs.BlockParts.{view_nested}
use Rattle.omf_record.proofs.Expanded.{next_is}
use Rattle.omf_record.proofs.Searched.{contents_within, stops, goes}
use Rattle.omf_record.proofs.content.+find.Goals as goal

pub find_in_block-returns-then-first-place : goal.find_in_block-returns-then-first-place
find_in_block-returns-then-first-place g t c =
    let bs = blocks_of (map block_view c.in-Nested.blocks.items) in
    rw (c.in-Nested.is, view_nested c.in-Nested.repeat c.in-Nested.blocks)
    (λ l. omega (arith, (contents_within c.args.at c.args.width (c.args.place + 4) bs l).0), omega arith)

pub find_in_block-returns-else-first-place : goal.find_in_block-returns-else-first-place
find_in_block-returns-else-first-place g t c =
    let bs = blocks_of (map block_view c.in-Nested.blocks.items) in
    let end : c.args.place + 4 + all_stored_len bs ≡ c.args.place + (4 + all_stored_len bs) = omega arith in
    rw (c.in-Nested.is, view_nested c.in-Nested.repeat c.in-Nested.blocks, ← end)
    (rw c.deref.ensures.value at c.find_in_blocks.ensures)

pub find_in_blocks-returns-in_default : goal.find_in_blocks-returns-in_default
find_in_blocks-returns-in_default g t c =
    let next =
    next_is block_view c.args.blocks.now c.loop-block.block-index c.block-item.result c.loop-block-test.true
    c.block-item.is in
    c.loop-block.invariant.goes_on c.find_in_block.result
    (stops c.loop-block.inner (block_view c.block-item.result) c.args.at c.args.width c.find_in_block.result next
    (λ end e. c.in_default.not-Beyond end e) c.find_in_block.ensures)

pub find_in_blocks-loop-block-preserved : goal.find_in_blocks-loop-block-preserved
find_in_blocks-loop-block-preserved g t c =
    let next =
    next_is block_view c.args.blocks.now c.loop-block.block-index c.block-item.result c.loop-block-test.true
    c.block-item.is in
    record {
      before = omega (arith, c.in-Beyond.ensures);
      goes_on =
          λ z f.
          c.loop-block.invariant.goes_on z
          (goes c.loop-block.inner (block_view c.block-item.result) c.args.at c.args.width c.in-Beyond.end z next
          c.in-Beyond.ensures f);
    }

pub find_in_blocks-returns : goal.find_in_blocks-returns
find_in_blocks-returns g t c =
    c.loop-block.invariant.goes_on (Beyond c.loop-block.inner)
    (rw (drop_all c.loop-block.block-index c.args.blocks.now c.loop-block-test.false)
    (λ l. l, omega arith, omega arith))
