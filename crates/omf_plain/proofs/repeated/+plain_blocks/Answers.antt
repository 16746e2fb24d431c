use Rattle.std.proofs.Common.{◌≡◌, ◌+◌, ◌++◌, ◌∷◌, [], Bool, false, true, map, drop, take, refl, sym, ap, ◌∙◌, Err}
use Rattle.std.specs.Prelude.{◌&&◌}
use Rattle.std.proofs.lemmas.List.{drop_more, map_push, take_more, take_all}
use Rattle.std.proofs.lemmas.Result.{err_from_is_err_and}
use Rattle.omf_extended.specs.View.{wide_block_view}
use Rattle.omf_extended.proofs.BlockViews as wide
use Rattle.omf_record.specs.Record.{blocks_of, block_list}
use Rattle.omf_record.specs.View.{block_view}
use Rattle.omf_record.proofs.BlockParts as narrow
use Rattle.omf_plain.specs.Data.{has_word_counts, have_word_counts}
use Rattle.omf_plain.proofs.Counts.{few, fails, made, refused, too_many}
use Rattle.omf_plain.proofs.repeated.+plain_blocks.Goals.{in-Content+in_ok-repeat-in-Content+in_ok-push-in-Content}
use Rattle.omf_plain.proofs.repeated.+plain_blocks.Goals.{}
use Rattle.omf_plain.proofs.repeated.+plain_blocks.Goals.{in-Nested+in_ok-repeat-in-Nested+in_ok-blocks-in-Nested+in_ok-push-in-Nested}
use Rattle.omf_plain.proofs.repeated.+plain_blocks.Goals as goal

pub returns-in_err-repeat-in-Content : goal.returns-in_err-repeat-in-Content
returns-in_err-repeat-in-Content g t c =
    let b = c.block-item.result in
    let i = c.loop-block.block-index in
    let p = err_from_is_err_and c.from_residual.result c.from_residual.ensures.1 in
    let (big, o-is) = too_many c.in-Content.repeat c.in_err-repeat-in-Content.field-0.0 c.in_err-repeat-in-Content.ensures in
    let says = ap wide_block_view c.in-Content.is ∙ wide.view_content _ c.in-Content.repeat c.in-Content.bytes in
    let left = have_word_counts (blocks_of (map wide_block_view (drop (i + 1) c.args.wide.now))) in
    let split =
    ap (λ xs. have_word_counts (blocks_of (map wide_block_view xs)))
    (drop_more c.args.wide.now i b c.loop-block-test.true)
    ∙ ap (λ x. has_word_counts (wide_block_view x) && left) (sym c.block-item.is)
    ∙ ap (λ x. has_word_counts x && left) says ∙ ap (λ x. x && left) big in
    rw (p.1, p.2, o-is) (refused (map wide_block_view c.args.wide.now) (c.loop-block.invariant.counts ∙ split))

pub returns-in_err-repeat-in-Nested : goal.returns-in_err-repeat-in-Nested
returns-in_err-repeat-in-Nested g t c =
    let b = c.block-item.result in
    let i = c.loop-block.block-index in
    let p = err_from_is_err_and c.from_residual-in_err-repeat-in-Nested.result
    c.from_residual-in_err-repeat-in-Nested.ensures.1 in
    let (big, o-is) = too_many c.in-Nested.repeat c.in_err-repeat-in-Nested.field-0.0 c.in_err-repeat-in-Nested.ensures in
    let says = ap wide_block_view c.in-Nested.is ∙ wide.view_nested c.in-Nested.repeat c.in-Nested.blocks in
    let inner = have_word_counts (blocks_of (map wide_block_view c.in-Nested.blocks.items)) in
    let left = have_word_counts (blocks_of (map wide_block_view (drop (i + 1) c.args.wide.now))) in
    let split =
    ap (λ xs. have_word_counts (blocks_of (map wide_block_view xs)))
    (drop_more c.args.wide.now i b c.loop-block-test.true)
    ∙ ap (λ x. has_word_counts (wide_block_view x) && left) (sym c.block-item.is)
    ∙ ap (λ x. has_word_counts x && left) says ∙ ap (λ x. x && inner && left) big in
    rw (p.1, p.2, o-is) (refused (map wide_block_view c.args.wide.now) (c.loop-block.invariant.counts ∙ split))

pub returns-in_err-blocks-in-Nested : goal.returns-in_err-blocks-in-Nested
returns-in_err-blocks-in-Nested g t c =
    let b = c.block-item.result in
    let i = c.loop-block.block-index in
    let p = err_from_is_err_and c.from_residual-in_err-blocks-in-Nested.result
    c.from_residual-in_err-blocks-in-Nested.ensures.1 in
    let (short, n-is) = few c.in-Nested.repeat c.in_ok-repeat-in-Nested.repeat c.in_ok-repeat-in-Nested.ensures in
    let says = ap wide_block_view c.in-Nested.is ∙ wide.view_nested c.in-Nested.repeat c.in-Nested.blocks in
    let inner = map wide_block_view c.in-Nested.blocks.items in
    let left = have_word_counts (blocks_of (map wide_block_view (drop (i + 1) c.args.wide.now))) in
    let split =
    ap (λ xs. have_word_counts (blocks_of (map wide_block_view xs)))
    (drop_more c.args.wide.now i b c.loop-block-test.true)
    ∙ ap (λ x. has_word_counts (wide_block_view x) && left) (sym c.block-item.is)
    ∙ ap (λ x. has_word_counts x && left) says ∙ ap (λ x. x && have_word_counts (blocks_of inner) && left) short in
    let stands = rw c.deref.ensures.value at c.in_err-blocks-in-Nested.ensures in
    rw (p.1, p.2)
    (fails g.row.A.Denot c.in_err-blocks-in-Nested.field-0.0 inner
    (map wide_block_view c.args.wide.now) stands
    (λ e. c.loop-block.invariant.counts ∙ split ∙ ap (λ x. true && x && left) e))

pub loop-block-preserved : goal.loop-block-preserved
loop-block-preserved g t c =
    let b = c.block-item.result in
    let i = c.loop-block.block-index in
    let left = have_word_counts (blocks_of (map wide_block_view (drop (i + 1) c.args.wide.now))) in
    let here : (has_word_counts (wide_block_view b) ≡ true)
    × (map block_view c.match-block.all.items
    ≡ map block_view c.loop-block.all.items ++ wide_block_view b ∷ []) = elim c.match-block.branch [
      | in-Content+in_ok-repeat-in-Content+in_ok-push-in-Content w ↦
          let (short, n-is) =
          few w.in-Content.repeat w.in_ok-repeat-in-Content.repeat w.in_ok-repeat-in-Content.ensures in
          let says = ap wide_block_view w.in-Content.is
          ∙ wide.view_content _ w.in-Content.repeat w.in-Content.bytes in
          rw (says, w.all-is, w.in_ok-push-in-Content.ensures.items) (
            short,
            map_push block_view c.loop-block.all.items _
                ∙ rw (narrow.view_content g.row.A.Denot w.in_ok-repeat-in-Content.repeat w.in-Content.bytes, n-is) refl,
          )
      | in-Nested+in_ok-repeat-in-Nested+in_ok-blocks-in-Nested+in_ok-push-in-Nested w ↦
          let (short, n-is) = few w.in-Nested.repeat w.in_ok-repeat-in-Nested.repeat w.in_ok-repeat-in-Nested.ensures in
          let says = ap wide_block_view w.in-Nested.is
          ∙ wide.view_nested w.in-Nested.repeat w.in-Nested.blocks in
          let stands = rw w.deref.ensures.value at w.in_ok-blocks-in-Nested.ensures in
          let (counts, same) =
          made (map wide_block_view w.in-Nested.blocks.items) (map block_view w.in_ok-blocks-in-Nested.blocks.items)
          stands in
          rw (says, w.all-is, w.in_ok-push-in-Nested.ensures.items) (
            rw (short, counts) refl,
            map_push block_view c.loop-block.all.items _
                ∙ rw (narrow.view_nested w.in_ok-repeat-in-Nested.repeat w.in_ok-blocks-in-Nested.blocks, n-is, same) refl,
          )
    ] in
    let split =
    ap (λ xs. have_word_counts (blocks_of (map wide_block_view xs)))
    (drop_more c.args.wide.now i b c.loop-block-test.true)
    ∙ ap (λ x. has_word_counts (wide_block_view x) && left) (sym c.block-item.is) ∙ ap (λ x. x && left) here.0 in
    let taken =
    ap (map wide_block_view) (take_more c.args.wide.now i b c.loop-block-test.true)
    ∙ map_push wide_block_view (take i c.args.wide.now) _
    ∙ ap (λ x. map wide_block_view (take i c.args.wide.now) ++ wide_block_view x ∷ []) (sym c.block-item.is) in
    record {
      counts = c.loop-block.invariant.counts ∙ split;
      says = here.1 ∙ ap (λ xs. xs ++ wide_block_view b ∷ []) c.loop-block.invariant.says ∙ sym taken;
    }
