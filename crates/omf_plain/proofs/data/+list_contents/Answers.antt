use Rattle.std.proofs.Common.{◌≡◌, ◌+◌, ◌++◌, map, drop, refl, sym, ap, ◌∙◌, arith, append_assoc, []}
use Rattle.std.proofs.lemmas.List.{append-nil, drop_all, drop_more, map_push}
use Rattle.omf_record.specs.Record.{Blocks, More, blocks_of}
use Rattle.omf_record.specs.View.{block_view}
use Rattle.omf_record.specs.Expansion.{stored_len, all_stored_len}
use Rattle.omf_plain.specs.Data.{contents_at, all_contents_at}
use Rattle.omf_record.proofs.BlockParts.{view_content, view_nested}
use Rattle.omf_plain.specs.View.{content_view}
use Rattle.omf_plain.proofs.data.+list_contents.Goals.{in-Content+in_ok-push-in-Content}
use Rattle.omf_plain.proofs.data.+list_contents.Goals.{in-Nested+in_ok-place-in-Nested}
use Rattle.omf_plain.proofs.data.+list_contents.Goals as goal

pub loop-block-preserved : goal.loop-block-preserved
loop-block-preserved g t c =
    let b = c.block-item.result in
    let i = c.loop-block.block-index in
    let left = blocks_of (map block_view (drop (i + 1) c.args.blocks.now)) in
    let here : (c.match-block.place ≡ c.loop-block.place + stored_len (block_view b))
    × (map content_view c.match-block.list.items
    ≡ map content_view c.loop-block.list.items ++ contents_at c.loop-block.place (block_view b)) = elim c.match-block.branch [
      | in-Content+in_ok-push-in-Content w ↦
          let says = ap block_view w.in-Content.is ∙ view_content _ w.in-Content.repeat w.in-Content.bytes in
          rw (says, w.place-is, w.list-is, w.in_ok-push-in-Content.ensures.items)
          (omega arith, map_push content_view c.loop-block.list.items _)
      | in-Nested+in_ok-place-in-Nested w ↦
          let says = ap block_view w.in-Nested.is ∙ view_nested w.in-Nested.repeat w.in-Nested.blocks in
          let inner = rw w.deref.ensures.value at w.in_ok-place-in-Nested.ensures in
          rw (says, w.place-is, w.list-is, inner.0, inner.1) (omega arith, refl)
    ] in
    let split : blocks_of (map block_view (drop i c.args.blocks.now)) ≡ More (block_view b) left =
    ap (λ xs. blocks_of (map block_view xs)) (drop_more c.args.blocks.now i b c.loop-block-test.true)
    ∙ ap (λ x. More (block_view x) left) (sym c.block-item.is) in
    let ends : c.loop-block.place + all_stored_len (More (block_view b) left)
    ≡ c.args.place + all_stored_len (blocks_of (map block_view c.args.blocks.now)) =
    ap (λ (bs : Blocks). c.loop-block.place + all_stored_len bs) (sym split) ∙ c.loop-block.invariant.ends in
    let gives =
    ap (λ (bs : Blocks). map content_view c.loop-block.list.items ++ all_contents_at c.loop-block.place bs) (sym split)
    ∙ c.loop-block.invariant.gives in
    record {
      ends = omega (arith, here.0);
      gives = rw (here.0, here.1, append_assoc) gives;
    }

pub loop-block-init : goal.loop-block-init
loop-block-init g t c = record { ends = refl; gives = refl }

pub returns : goal.returns
returns g t c =
    let none : drop c.loop-block.block-index c.args.blocks.now ≡ [] =
    drop_all c.loop-block.block-index c.args.blocks.now c.loop-block-test.false in
    let ends = rw none at c.loop-block.invariant.ends in
    let gives = rw none at c.loop-block.invariant.gives in
    (omega (arith, ends), rw append-nil at gives)

pub overflow_add-place : goal.overflow_add-place
overflow_add-place g t c = omega (arith, c.loop-block.invariant.ends, c.requires)

pub overflow_add-place-in-Content : goal.overflow_add-place-in-Content
overflow_add-place-in-Content g t c = omega (arith, c.loop-block.invariant.ends, c.requires)

pub overflow_add-place-in-Nested : goal.overflow_add-place-in-Nested
overflow_add-place-in-Nested g t c = omega (arith, c.loop-block.invariant.ends, c.requires)
