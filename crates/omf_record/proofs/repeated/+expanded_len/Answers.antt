use Rattle.std.proofs.Common.{map, ap, arith}
use Rattle.std.proofs.lemmas.List.{drop_all}
use Rattle.omf_record.specs.Record.{blocks_of}
use Rattle.omf_record.specs.View.{block_view}
use Rattle.omf_record.specs.inside.Expansion.{all_expanded_len}
use Rattle.omf_record.proofs.BlockParts.{view_nested}
use Rattle.omf_record.proofs.Expanded.{cap_mul, length_expansion, next_is}
use Rattle.omf_record.proofs.repeated.+expanded_len.Goals as goal

pub block_expanded_len-returns-in-Nested : goal.block_expanded_len-returns-in-Nested
block_expanded_len-returns-in-Nested g t c =
    let bs = map block_view c.in-Nested.blocks.items in
    rw (c.times-in-Nested.ensures, c.expanded_len.ensures, c.deref.ensures.value, length_expansion, c.in-Nested.is, view_nested c.in-Nested.repeat c.in-Nested.blocks) (cap_mul c.in-Nested.repeat (all_expanded_len (blocks_of bs)))

pub expanded_len-returns-then-total-eq-TOO_LONG : goal.expanded_len-returns-then-total-eq-TOO_LONG
expanded_len-returns-then-total-eq-TOO_LONG g t c =
    let next =
    next_is block_view c.args.blocks.now c.loop-block.block-index c.block-item.result c.loop-block-test.true
    c.block-item.is in
    omega (arith, ap all_expanded_len next, length_expansion (map block_view c.args.blocks.now))

pub expanded_len-loop-block-preserved : goal.expanded_len-loop-block-preserved
expanded_len-loop-block-preserved g t c =
    let next =
    next_is block_view c.args.blocks.now c.loop-block.block-index c.block-item.result c.loop-block-test.true
    c.block-item.is in
    record { most = omega arith; whole = omega (arith, ap all_expanded_len next) }

pub expanded_len-returns : goal.expanded_len-returns
expanded_len-returns g t c =
    let done = drop_all c.loop-block.block-index c.args.blocks.now c.loop-block-test.false in
    omega (
      arith,
      ap (λ ys. all_expanded_len (blocks_of (map block_view ys))) done,
      length_expansion (map block_view c.args.blocks.now),
    )
