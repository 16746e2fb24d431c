use Rattle.std.proofs.Common.{◌≡◌, ◌+◌, ◌-◌, ◌*◌, length, drop, map, refl, sym, ap, ◌∙◌, arith}
use Rattle.std.proofs.lemmas.List.{drop_all}
use Rattle.omf_record.specs.Record.{blocks_of}
use Rattle.omf_record.specs.View.{block_view}
use Rattle.omf_record.specs.Expansion.{stored_len, all_stored_len, expansion_at, expansions_at, bytes, places}
use Rattle.omf_record.proofs.BlockParts.{view_content, view_nested}
use Rattle.omf_record.proofs.Expanded.{length_stored, expanded, repeated, next_is, expansions_more, laid_more, all_laid}
use Rattle.omf_record.proofs.expand.+expand.Goals as goal

pub expand_once-lay_content-requires-clause-room : goal.expand_once-lay_content-requires-clause-room
expand_once-lay_content-requires-clause-room g t c =
    rw (c.in-Content.is, view_content g.row.A.Denot c.in-Content.repeat c.in-Content.content, length_stored) at
    c.requires.room

pub expand_once-returns-in-Content-clause-len : goal.expand_once-returns-in-Content-clause-len
expand_once-returns-in-Content-clause-len g t c =
    rw (c.in-Content.is, view_content g.row.A.Denot c.in-Content.repeat c.in-Content.content, length_stored)
    c.lay_content.ensures.len

pub expand_block-returns-clause-bytes : goal.expand_block-returns-clause-bytes
expand_block-returns-clause-bytes g t c =
    repeated (λ p. p.1) c.args.place (block_view c.args.block.now) c.repeat-repeat.ensures
    c.expand_once-once.ensures.bytes c.repeat_front.ensures

pub expand_block-returns-clause-stored : goal.expand_block-returns-clause-stored
expand_block-returns-clause-stored g t c =
    repeated (λ p. p.0) c.args.place (block_view c.args.block.now) c.repeat-repeat.ensures
    c.expand_once-once.ensures.stored c.repeat_front-2.ensures

pub expand_all-loop-block-preserved : goal.expand_all-loop-block-preserved
expand_all-loop-block-preserved g t c =
    let b = block_view c.block-item.result in
    let i = c.loop-block.block-index in
    let all = expansions_at c.args.place (blocks_of (map block_view c.args.blocks.now)) in
    let here = c.loop-block.inner in
    let at = c.loop-block.at in
    let old = c.loop-block in
    let call = c.expand_block-at in
    let next = next_is block_view c.args.blocks.now i c.block-item.result c.loop-block-test.true c.block-item.is in
    let after : here + c.block_len-inner.result ≡ here + stored_len b = omega arith in
    let taken = ap all_stored_len next in
    let more = expansions_more here b next in
    rw after record {
      short = omega arith;
      len = omega arith;
      laid =
          laid_more (λ p. p.1) here b at (length old.bytes - at) call.result old.bytes call.new.bytes (bytes all) next
          (omega arith) (omega arith) call.ensures.bytes old.invariant.laid;
      numbered =
          laid_more (λ p. p.0) here b at (length old.stored - at) call.result old.stored call.new.stored (places all)
          next (omega arith) (omega arith) call.ensures.stored old.invariant.numbered;
    }

pub expand_all-overflow_add-at : goal.expand_all-overflow_add-at
expand_all-overflow_add-at g t c =
    let more =
    expansions_more c.loop-block.inner (block_view c.block-item.result)
    (next_is block_view c.args.blocks.now c.loop-block.block-index c.block-item.result c.loop-block-test.true
    c.block-item.is) in
    omega arith

pub expand_all-block_len-inner-requires : goal.expand_all-block_len-inner-requires
expand_all-block_len-inner-requires g t c =
    let taken =
    ap all_stored_len
    (next_is block_view c.args.blocks.now c.loop-block.block-index c.block-item.result c.loop-block-test.true
    c.block-item.is) in
    omega arith

pub expand_all-overflow_add-inner : goal.expand_all-overflow_add-inner
expand_all-overflow_add-inner g t c =
    let taken =
    ap all_stored_len
    (next_is block_view c.args.blocks.now c.loop-block.block-index c.block-item.result c.loop-block-test.true
    c.block-item.is) in
    omega arith

pub expand_all-returns-clause-len : goal.expand_all-returns-clause-len
expand_all-returns-clause-len g t c =
    let loop = c.loop-block in
    let rest : length (expansions_at loop.inner (blocks_of (map block_view (drop loop.block-index c.args.blocks.now))))
    ≡ 0 = rw (drop_all loop.block-index c.args.blocks.now c.loop-block-test.false) refl in
    omega (arith, loop.invariant.len)

pub expand_all-returns-clause-bytes : goal.expand_all-returns-clause-bytes
expand_all-returns-clause-bytes g t c =
    all_laid block_view (λ p. p.1) c.loop-block.inner c.args.blocks.now c.loop-block.block-index c.loop-block-test.false
    c.loop-block.invariant.laid

pub expand_all-returns-clause-stored : goal.expand_all-returns-clause-stored
expand_all-returns-clause-stored g t c =
    all_laid block_view (λ p. p.0) c.loop-block.inner c.args.blocks.now c.loop-block.block-index c.loop-block-test.false
    c.loop-block.invariant.numbered

pub expand_block-returns-clause-len : goal.expand_block-returns-clause-len
expand_block-returns-clause-len g t c =
    rw (c.repeat-repeat.ensures, c.expand_once-once.ensures.len)
    (sym (expanded c.args.place (block_view c.args.block.now)))

pub expand_block-repeat_front-requires-clause-room :
    goal.expand_block-repeat_front-requires-clause-room
expand_block-repeat_front-requires-clause-room g t c =
    let whole : c.repeat-repeat.result * c.expand_once-once.result
    ≡ length (expansion_at c.args.place (block_view c.args.block.now)) =
    rw (c.repeat-repeat.ensures, c.expand_once-once.ensures.len)
    (sym (expanded c.args.place (block_view c.args.block.now))) in
    omega arith

pub expand_block-repeat_front-requires-2-clause-room :
    goal.expand_block-repeat_front-requires-2-clause-room
expand_block-repeat_front-requires-2-clause-room g t c =
    let whole : c.repeat-repeat.result * c.expand_once-once.result
    ≡ length (expansion_at c.args.place (block_view c.args.block.now)) =
    rw (c.repeat-repeat.ensures, c.expand_once-once.ensures.len)
    (sym (expanded c.args.place (block_view c.args.block.now))) in
    omega arith

pub expand_block-overflow_mul-result : goal.expand_block-overflow_mul-result
expand_block-overflow_mul-result g t c =
    let whole : c.repeat-repeat.result * c.expand_once-once.result
    ≡ length (expansion_at c.args.place (block_view c.args.block.now)) =
    rw (c.repeat-repeat.ensures, c.expand_once-once.ensures.len)
    (sym (expanded c.args.place (block_view c.args.block.now))) in
    omega arith

pub expand_once-overflow_add-place : goal.expand_once-overflow_add-place
expand_once-overflow_add-place g t c =
    let seen =
    ap stored_len
    (ap block_view c.in-Content.is ∙ view_content g.row.A.Denot c.in-Content.repeat c.in-Content.content) in
    omega arith

pub expand_once-lay_content-requires-clause-short :
    goal.expand_once-lay_content-requires-clause-short
expand_once-lay_content-requires-clause-short g t c =
    let seen =
    ap stored_len
    (ap block_view c.in-Content.is ∙ view_content g.row.A.Denot c.in-Content.repeat c.in-Content.content) in
    omega arith

pub expand_once-returns-in-Content-clause-bytes : goal.expand_once-returns-in-Content-clause-bytes
expand_once-returns-in-Content-clause-bytes g t c =
    rw (c.in-Content.is, view_content g.row.A.Denot c.in-Content.repeat c.in-Content.content)
    c.lay_content.ensures.bytes

pub expand_once-returns-in-Content-clause-stored :
    goal.expand_once-returns-in-Content-clause-stored
expand_once-returns-in-Content-clause-stored g t c =
    rw (c.in-Content.is, view_content g.row.A.Denot c.in-Content.repeat c.in-Content.content)
    c.lay_content.ensures.stored

pub expand_once-returns-in-Nested-clause-len : goal.expand_once-returns-in-Nested-clause-len
expand_once-returns-in-Nested-clause-len g t c =
    rw (c.in-Nested.is, view_nested c.in-Nested.repeat c.in-Nested.blocks, sym c.deref.ensures.value)
    c.expand_all.ensures.len

pub expand_once-returns-in-Nested-clause-bytes : goal.expand_once-returns-in-Nested-clause-bytes
expand_once-returns-in-Nested-clause-bytes g t c =
    rw (c.in-Nested.is, view_nested c.in-Nested.repeat c.in-Nested.blocks, sym c.deref.ensures.value)
    c.expand_all.ensures.bytes

pub expand_once-returns-in-Nested-clause-stored : goal.expand_once-returns-in-Nested-clause-stored
expand_once-returns-in-Nested-clause-stored g t c =
    rw (c.in-Nested.is, view_nested c.in-Nested.repeat c.in-Nested.blocks, sym c.deref.ensures.value)
    c.expand_all.ensures.stored
