use Rattle.std.proofs.Common.{◌≡◌, ◌<◌, ◌∷◌, [], ◌++◌, length, map, rules}
use Rattle.std.proofs.lemmas.Result.{err_from_is_err_and}
use Rattle.std.proofs.lemmas.List.{map_push}
use Rattle.omf_codec.proofs.Lists.{so_far_more}
use Rattle.omf_extended.proofs.Blocks.{content_err, content_done, content_blocks, behind_shorter}
use Rattle.omf_extended.proofs.Chains.{no_bytes}
use Rattle.omf_extended.specs.View.{wide_block_view}
use Rattle.omf_extended.specs.inside.Repeated.{block}
use Rattle.omf_extended.proofs.repeated.read_content.Goals as goal

pub returns-in_err-block-clause-reads : goal.returns-in_err-block-clause-reads
returns-in_err-block-clause-reads g c =
    let p = err_from_is_err_and c.from_residual.result c.from_residual.ensures.1 in
    let some : 0 < length c.loop-alloc.rest.now = search rules in
    rw (p.1, p.2)
    (content_err c.args.bytes.now (map wide_block_view c.loop-alloc.blocks.items) c.loop-alloc.rest.now _ some
    c.loop-alloc.invariant c.in_err-block.ensures)

pub loop-alloc-preserved : goal.loop-alloc-preserved
loop-alloc-preserved g c =
    let x = c.in_ok-block.block in
    let e : map wide_block_view c.push.new.self.items
    ≡ map wide_block_view c.loop-alloc.blocks.items ++ wide_block_view x ∷ [] =
    rw c.in_ok-push.ensures.items (map_push wide_block_view c.loop-alloc.blocks.items x) in
    rw e
    (so_far_more (block 63) c.args.bytes.now (map wide_block_view c.loop-alloc.blocks.items) c.loop-alloc.rest.now
    (wide_block_view x) c.in_ok-block.after.now c.loop-alloc.invariant c.in_ok-block.ensures)

pub loop-alloc-smaller : goal.loop-alloc-smaller
loop-alloc-smaller g c =
    behind_shorter c.loop-alloc.rest.now (wide_block_view c.in_ok-block.block) c.in_ok-block.after.now
    c.in_ok-block.ensures

pub returns-clause-reads : goal.returns-clause-reads
returns-clause-reads g c =
    let none : length c.loop-alloc.rest.now ≡ 0 = search rules in
    content_done c.args.bytes.now (map wide_block_view c.loop-alloc.blocks.items) c.loop-alloc.rest.now
    c.loop-alloc.invariant (no_bytes c.loop-alloc.rest.now none)

pub returns-clause-blocks : goal.returns-clause-blocks
returns-clause-blocks g c =
    let none : length c.loop-alloc.rest.now ≡ 0 = search rules in
    content_blocks c.args.bytes.now (map wide_block_view c.loop-alloc.blocks.items) c.loop-alloc.rest.now
    c.loop-alloc.invariant (no_bytes c.loop-alloc.rest.now none)
