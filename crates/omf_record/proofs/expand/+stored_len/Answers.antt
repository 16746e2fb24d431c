use Rattle.std.proofs.Common.{◌+◌, ◌≤◌, length, sym, ap, ◌∙◌, arith}
use Rattle.omf_record.specs.Expansion.{stored_len, all_stored_len}
use Rattle.omf_record.specs.View.{block_view}
use Rattle.omf_record.proofs.BlockParts.{view_content, view_nested}
use Rattle.omf_record.proofs.Expanded.{next_is}
use Rattle.omf_record.proofs.expand.+stored_len.Goals as goal

pub block_len-overflow_cast-result : goal.block_len-overflow_cast-result
block_len-overflow_cast-result g t c =
    let short : 5 + length c.in-Content.bytes.now ≤ 65535 =
    rw (c.in-Content.is, view_content g.row.A.Denot c.in-Content.repeat c.in-Content.bytes) at c.requires in
    omega (arith, short)

pub block_len-overflow_add-result : goal.block_len-overflow_add-result
block_len-overflow_add-result g t c =
    let short : 5 + length c.in-Content.bytes.now ≤ 65535 =
    rw (c.in-Content.is, view_content g.row.A.Denot c.in-Content.repeat c.in-Content.bytes) at c.requires in
    omega (arith, short)

pub block_len-returns-in-Content : goal.block_len-returns-in-Content
block_len-returns-in-Content g t c =
    sym (ap stored_len
    (ap block_view c.in-Content.is ∙ view_content g.row.A.Denot c.in-Content.repeat c.in-Content.bytes))

pub block_len-overflow_add-result-in-Nested : goal.block_len-overflow_add-result-in-Nested
block_len-overflow_add-result-in-Nested g t c =
    let seen = ap stored_len (ap block_view c.in-Nested.is ∙ view_nested c.in-Nested.repeat c.in-Nested.blocks) in
    omega (arith, seen, rw c.deref.ensures.value at c.blocks_stored_len.ensures)

pub block_len-returns-in-Nested : goal.block_len-returns-in-Nested
block_len-returns-in-Nested g t c =
    let seen = ap stored_len (ap block_view c.in-Nested.is ∙ view_nested c.in-Nested.repeat c.in-Nested.blocks) in
    omega (arith, seen, rw c.deref.ensures.value at c.blocks_stored_len.ensures)

pub blocks_stored_len-overflow_add-len : goal.blocks_stored_len-overflow_add-len
blocks_stored_len-overflow_add-len g t c =
    let next =
    next_is block_view c.args.blocks.now c.loop-block.block-index c.block-item.result c.loop-block-test.true
    c.block-item.is in
    omega (arith, ap all_stored_len next, c.loop-block.invariant, c.block_len-len.ensures)

pub blocks_stored_len-loop-block-preserved : goal.blocks_stored_len-loop-block-preserved
blocks_stored_len-loop-block-preserved g t c =
    let next =
    next_is block_view c.args.blocks.now c.loop-block.block-index c.block-item.result c.loop-block-test.true
    c.block-item.is in
    omega (arith, ap all_stored_len next, c.loop-block.invariant, c.block_len-len.ensures)
