use Rattle.std.proofs.Common.{◌≡◌, ◌-◌, length, map, Ok, Err, arith, rules}
use Rattle.std.proofs.lemmas.List.{length-map}
use Rattle.omf_record.specs.View.{block_view}
use Rattle.omf_record.specs.inside.Blocks.{block, block_lawful}
use Rattle.omf_codec.proofs.Lists.{left_more, left_fails, left_done}
use Rattle.omf_record.proofs.BlockParts.{view_content, view_nested}
use Rattle.omf_record.proofs.BlockTexts.{content_written, head_fails, nested_written, nested_fits}
use Rattle.omf_record.proofs.blocks.+put_block.Goals as goal

pub returns-in-Content : goal.returns-in-Content
returns-in-Content g t c =
    content_written g.O.Output.Takes g.O.Output.Refuses g.met.O.Output.is_output g.row.A.Denot c.args.below
    c.in-Content.repeat c.in-Content.bytes c.args.block.now c.args.out.now c.put.new.out c.put.result
    (rw c.in-Content.is (view_content g.row.A.Denot c.in-Content.repeat c.in-Content.bytes)) c.put.ensures

pub returns-then-below-eq0 : goal.returns-then-below-eq0
returns-then-below-eq0 g t c =
    rw (c.in-Nested.is, view_nested c.in-Nested.repeat c.in-Nested.blocks)
    (λ text l.
    absurd
    (omega (
      arith,
      c.if-below-eq0.true,
      (nested_fits c.args.below c.in-Nested.repeat (map block_view c.in-Nested.blocks.items) text l).0,
    )))

pub returns-then-len-gt65535 : goal.returns-then-len-gt65535
returns-then-len-gt65535 g t c = rw (c.in-Nested.is, view_nested c.in-Nested.repeat c.in-Nested.blocks)
    (λ text l.
    absurd
    (omega (
      arith,
      c.if-len-gt65535.true,
      c.len.ensures,
      length-map c.in-Nested.blocks.items block_view,
      (nested_fits c.args.below c.in-Nested.repeat (map block_view c.in-Nested.blocks.items) text l).1,
    )))

pub returns-in_err-put-in-Nested : goal.returns-in_err-put-in-Nested
returns-in_err-put-in-Nested g t c =
    let is : c.from_residual.result ≡ Err c.in_err-put-in-Nested.field-0.0 = search rules in
    let n : c.len-in-Nested.result ≡ length (map block_view c.in-Nested.blocks.items) =
    omega (arith, c.len-in-Nested.ensures, length-map c.in-Nested.blocks.items block_view) in
    rw (is, c.in-Nested.is, view_nested c.in-Nested.repeat c.in-Nested.blocks)
    (head_fails g.O.Output.Takes g.O.Output.Refuses g.met.O.Output.is_output g.row.A.Denot c.args.below
    c.in-Nested.repeat (map block_view c.in-Nested.blocks.items) c.args.out.now c.put-in-Nested.new.out
    (rw n at c.in_err-put-in-Nested.ensures))

pub returns-in_err-put_block-in-Nested : goal.returns-in_err-put_block-in-Nested
returns-in_err-put_block-in-Nested g t c =
    let is : c.from_residual-in_err-put_block-in-Nested.result ≡ Err c.in_err-put_block-in-Nested.field-0.0 =
    search rules in
    let xs = c.deref-inner-items.result.now in
    let n : c.len-in-Nested.result ≡ length xs =
    omega (arith, c.len-in-Nested.ensures, c.deref-inner-items.ensures.len) in
    rw is
    (nested_written g.O.Output.Takes g.O.Output.Refuses g.met.O.Output.is_output g.row.A.Denot c.args.below
    c.in-Nested.repeat (omega (arith, c.if-below-eq0.false)) c.len-in-Nested.result xs c.args.block.now c.args.out.now
    c.put-in-Nested.new.out c.put_block.new.out (Err c.in_err-put_block-in-Nested.field-0.0) n
    (rw (c.in-Nested.is, c.deref-inner-items.ensures.value) (view_nested c.in-Nested.repeat c.in-Nested.blocks))
    c.in_ok-put-in-Nested.ensures
    (left_fails g.O.Output.Takes g.O.Output.Refuses g.met.O.Output.is_output (block (c.args.below - 1))
    (block_lawful (c.args.below - 1)) xs c.put-in-Nested.new.out c.loop-inner.out c.put_block.new.out
    c.loop-inner.inner-index
    c.inner-item.result c.in_err-put_block-in-Nested.field-0.0 c.loop-inner-test.true c.inner-item.is
    c.loop-inner.invariant c.in_err-put_block-in-Nested.ensures))

pub loop-inner-preserved : goal.loop-inner-preserved
loop-inner-preserved g t c =
    left_more g.O.Output.Takes g.O.Output.Refuses g.met.O.Output.is_output (block (c.args.below - 1))
    (block_lawful (c.args.below - 1)) c.deref-inner-items.result.now c.put-in-Nested.new.out c.loop-inner.out
    c.put_block.new.out c.loop-inner.inner-index
    c.inner-item.result c.loop-inner-test.true c.inner-item.is c.loop-inner.invariant
    c.in_ok-put_block-in-Nested.ensures

pub returns-after-loop-inner : goal.returns-after-loop-inner
returns-after-loop-inner g t c =
    let xs = c.deref-inner-items.result.now in
    let n : c.len-in-Nested.result ≡ length xs =
    omega (arith, c.len-in-Nested.ensures, c.deref-inner-items.ensures.len) in
    nested_written g.O.Output.Takes g.O.Output.Refuses g.met.O.Output.is_output g.row.A.Denot c.args.below
    c.in-Nested.repeat (omega (arith, c.if-below-eq0.false)) c.len-in-Nested.result xs c.args.block.now c.args.out.now
    c.put-in-Nested.new.out c.loop-inner.out (Ok tt) n
    (rw (c.in-Nested.is, c.deref-inner-items.ensures.value) (view_nested c.in-Nested.repeat c.in-Nested.blocks))
    c.in_ok-put-in-Nested.ensures
    (left_done g.O.Output.Takes g.O.Output.Refuses g.met.O.Output.is_output (block (c.args.below - 1))
    (block_lawful (c.args.below - 1)) xs c.put-in-Nested.new.out c.loop-inner.out c.loop-inner.inner-index
    (omega (arith, c.loop-inner-test.false)) c.loop-inner.invariant)
