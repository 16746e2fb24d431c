use Rattle.std.proofs.Common.{◌≡◌, ◌+◌, ◌++◌, map, drop, refl, sym, ap, ◌∙◌, arith, append_assoc, []}
use Rattle.std.proofs.lemmas.List.{append-nil, drop_all, drop_more, map_push}
use Rattle.omf_extended.specs.View.{wide_block_view}
use Rattle.omf_extended.proofs.BlockViews.{view_content, view_nested}
use Rattle.omf_record.specs.Record.{Blocks, More, blocks_of}
use Rattle.omf_record.specs.Expansion.{stored_len, all_stored_len}
use Rattle.omf_plain.specs.Data.{wide_contents_at, all_wide_contents_at, wide_stored_len, all_wide_stored_len}
use Rattle.omf_plain.specs.View.{wide_content_view}
use Rattle.omf_plain.proofs.WideContents.{all_moved, one_moved}
use Rattle.omf_plain.proofs.data.+list_wide_contents.Goals.{in-Content+in_ok-push-in-Content}
use Rattle.omf_plain.proofs.data.+list_wide_contents.Goals.{in-Nested+in_ok-places-in-Nested}
use Rattle.omf_plain.proofs.data.+list_wide_contents.Goals as goal

pub loop-block-preserved : goal.loop-block-preserved
loop-block-preserved g t c =
    let b = c.block-item.result in
    let i = c.loop-block.block-index in
    let left = blocks_of (map wide_block_view (drop (i + 1) c.args.blocks.now)) in
    let here : (c.match-block.places.given ≡ c.loop-block.places.given + wide_stored_len (wide_block_view b))
    × (c.match-block.places.said ≡ c.loop-block.places.said + stored_len (wide_block_view b))
    × (map wide_content_view c.match-block.list.items
    ≡ map wide_content_view c.loop-block.list.items
    ++ wide_contents_at c.loop-block.places.given c.loop-block.places.said (wide_block_view b)) = elim c.match-block.branch [
      | in-Content+in_ok-push-in-Content w ↦
          let says = ap wide_block_view w.in-Content.is ∙ view_content _ w.in-Content.repeat w.in-Content.bytes in
          rw (says, w.places-is, w.list-is, w.in_ok-push-in-Content.ensures.items) (
            omega arith,
            omega arith,
            map_push wide_content_view c.loop-block.list.items _
                ∙ one_moved (map wide_content_view c.loop-block.list.items) w.in-Content.bytes.now w.behind.ensures.given
                w.behind.ensures.said,
          )
      | in-Nested+in_ok-places-in-Nested w ↦
          let says = ap wide_block_view w.in-Nested.is ∙ view_nested w.in-Nested.repeat w.in-Nested.blocks in
          let inner = rw w.deref.ensures.value at w.in_ok-places-in-Nested.ensures in
          rw (says, w.places-is, w.list-is) (
            omega (arith, inner.0, w.behind-in-Nested.ensures.given),
            omega (arith, inner.1, w.behind-in-Nested.ensures.said),
            inner.2
                ∙ all_moved (map wide_content_view c.loop-block.list.items)
                (blocks_of (map wide_block_view w.in-Nested.blocks.items)) w.behind-in-Nested.ensures.given
                w.behind-in-Nested.ensures.said,
          )
    ] in
    let split : blocks_of (map wide_block_view (drop i c.args.blocks.now)) ≡ More (wide_block_view b) left =
    ap (λ xs. blocks_of (map wide_block_view xs)) (drop_more c.args.blocks.now i b c.loop-block-test.true)
    ∙ ap (λ x. More (wide_block_view x) left) (sym c.block-item.is) in
    let given : c.loop-block.places.given + all_wide_stored_len (More (wide_block_view b) left)
    ≡ c.args.places.given + all_wide_stored_len (blocks_of (map wide_block_view c.args.blocks.now)) =
    ap (λ (bs : Blocks). c.loop-block.places.given + all_wide_stored_len bs) (sym split) ∙ c.loop-block.invariant.given in
    let said : c.loop-block.places.said + all_stored_len (More (wide_block_view b) left)
    ≡ c.args.places.said + all_stored_len (blocks_of (map wide_block_view c.args.blocks.now)) =
    ap (λ (bs : Blocks). c.loop-block.places.said + all_stored_len bs) (sym split) ∙ c.loop-block.invariant.said in
    let gives =
    ap
    (λ (bs : Blocks). map wide_content_view c.loop-block.list.items
    ++ all_wide_contents_at c.loop-block.places.given c.loop-block.places.said bs)
    (sym split)
    ∙ c.loop-block.invariant.gives in
    record {
      given = omega (arith, here.0);
      said = omega (arith, here.1);
      gives = rw (here.0, here.1, here.2, append_assoc) gives;
    }

pub loop-block-init : goal.loop-block-init
loop-block-init g t c = record { given = refl; said = refl; gives = refl }

pub returns : goal.returns
returns g t c =
    let none : drop c.loop-block.block-index c.args.blocks.now ≡ [] =
    drop_all c.loop-block.block-index c.args.blocks.now c.loop-block-test.false in
    let given = rw none at c.loop-block.invariant.given in
    let said = rw none at c.loop-block.invariant.said in
    let gives = rw none at c.loop-block.invariant.gives in
    (omega (arith, given), omega (arith, said), rw append-nil at gives)
