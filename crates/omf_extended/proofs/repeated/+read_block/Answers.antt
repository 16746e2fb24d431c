use Rattle.std.proofs.Common.{◌≡◌, ◌-◌, ◌++◌, ◌∷◌, [], map, arith, rules}
use Rattle.std.proofs.lemmas.Result.{err_from_is_err_and}
use Rattle.std.proofs.lemmas.List.{map_push, length-map}
use Rattle.omf_codec.proofs.Lists.{so_far_more}
use Rattle.omf_extended.proofs.BlockViews.{view_content, view_nested}
use Rattle.omf_extended.proofs.Blocks.{leaf_err, leaf_found, head_err, content_found, inner_err, nested_found}
use Rattle.omf_extended.specs.View.{wide_block_view}
use Rattle.omf_extended.specs.inside.Repeated.{head, block}
use Rattle.omf_extended.proofs.repeated.+read_block.Goals as goal

pub returns-in_err-repeat : goal.returns-in_err-repeat
returns-in_err-repeat g t c =
    let p = err_from_is_err_and c.from_residual.result c.from_residual.ensures.1 in
    rw (p.1, p.2, c.if-below-eq0.true) (leaf_err c.args.bytes.now _ c.in_err-repeat.ensures)

pub returns-then-below-eq0 : goal.returns-then-below-eq0
returns-then-below-eq0 g t c =
    rw (view_content g.row.A.Denot c.in_ok-repeat.repeat c.in_ok-repeat.bytes, c.if-below-eq0.true)
    (leaf_found c.args.bytes.now _ c.in_ok-repeat.rest.now c.in_ok-repeat.ensures)

pub returns-in_err-head : goal.returns-in_err-head
returns-in_err-head g t c =
    let p = err_from_is_err_and c.from_residual-in_err-head.result c.from_residual-in_err-head.ensures.1 in
    rw (p.1, p.2)
    (head_err c.args.below (omega (arith, c.if-below-eq0.false)) c.args.bytes.now _ c.in_err-head.ensures)

pub returns-in-Some : goal.returns-in-Some
returns-in-Some g t c =
    let h = c.in_ok-head.head in
    rw (view_content g.row.A.Denot h.0 c.in-Some.bytes)
    (content_found c.args.below c.args.bytes.now h.0 h.1.0 c.in-Some.bytes.now c.in_ok-head.rest.now
    (rw c.in-Some.is at c.in_ok-head.ensures))

pub returns-in_err-block : goal.returns-in_err-block
returns-in_err-block g t c =
    let p = err_from_is_err_and c.from_residual-in_err-block.result c.from_residual-in_err-block.ensures.1 in
    let xs = map wide_block_view c.loop.blocks.items in
    rw (p.1, p.2)
    (inner_err c.args.below (omega (arith, c.if-below-eq0.false)) c.args.bytes.now
    (head.view c.in_ok-head.head) c.in_ok-head.rest.now xs c.loop.rest.now _ c.in_ok-head.ensures
    (omega (arith, c.loop-test.true, c.loop.invariant.0, length-map c.loop.blocks.items wide_block_view))
    c.loop.invariant.1 c.in_err-block.ensures)

pub loop-preserved : goal.loop-preserved
loop-preserved g t c =
    let x = c.in_ok-block.block in
    let e : map wide_block_view c.push.new.self.items ≡ map wide_block_view c.loop.blocks.items ++ wide_block_view x ∷ [] =
    rw c.in_ok-push.ensures.items (map_push wide_block_view c.loop.blocks.items x) in (
      search rules,
      rw e
          (so_far_more (block (c.args.below - 1)) c.in_ok-head.rest.now (map wide_block_view c.loop.blocks.items)
          c.loop.rest.now (wide_block_view x) c.in_ok-block.after.now c.loop.invariant.1 c.in_ok-block.ensures),
    )

pub returns : goal.returns
returns g t c =
    let h = c.in_ok-head.head in
    rw (view_nested h.0 c.loop.blocks)
    (nested_found c.args.below (omega (arith, c.if-below-eq0.false)) c.args.bytes.now h.0 h.1.0
    c.in_ok-head.rest.now (map wide_block_view c.loop.blocks.items) c.loop.rest.now
    (rw c.in_default.is at c.in_ok-head.ensures)
    (omega (
      arith,
      c.loop.invariant.0,
      c.loop-test.false,
      c.loop.auto.counter-end,
      length-map c.loop.blocks.items wide_block_view,
    )) c.loop.invariant.1)
