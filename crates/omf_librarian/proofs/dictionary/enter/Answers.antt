use Rattle.std.proofs.Common.{◌≡◌, ◌≤◌, ℕ, ◌+◌, ◌-◌, ◌*◌, List, length, take, drop, Some, None, sym, ap, subst, ◌∙◌}
use Rattle.std.proofs.Common.{refl, arith}
use Rattle.std.specs.declared.option.Option.{Option}
use Rattle.std.proofs.lemmas.List.{length-drop, length-take-le}
use borrow.Rule.Slice.PartMut.{put_mid}
use Rattle.omf_librarian.specs.Entering.{entered_in, full_block}
use Rattle.omf_librarian.specs.inside.Views.{entry_view, hash_view}
use Rattle.omf_librarian.proofs.Filling.{block_hit, block_miss, enter_here, enter_init, enter_none, enter_step}
use Rattle.omf_librarian.proofs.Lists.{mid_size}
use Rattle.omf_librarian.proofs.dictionary.enter.Goals as goal

pub loop-init : goal.loop-init
loop-init c =
    enter_init c.args.blocks c.args.dictionary.now (hash_view c.new-hash.result) (entry_view c.args.entry.now)
    c.requires.size c.new-hash.ensures.said c.new-hash.ensures.block

pub returns-then-enter_in : goal.returns-then-enter_in
returns-then-enter_in c =
    let d = c.loop.dictionary in
    let at = c.loop.block in
    let h = hash_view c.new-hash.result in
    let e = entry_view c.args.entry.now in
    let size : 512 * at + 512 - 512 * at ≡ 512 = omega arith in
    let hit : entered_in (take (512 * at + 512 - 512 * at) (drop (512 * at) d)) h e ≡ Some c.enter_in.new.block =
    block_hit _ _ h e _ c.enter_in.ensures c.if-enter_in.true in
    let hit' : entered_in (take 512 (drop (512 * at) d)) h e ≡ Some c.enter_in.new.block =
    ap (λ k. entered_in (take k (drop (512 * at) d)) h e) (sym size) ∙ hit in
    enter_here c.args.blocks c.args.dictionary.now d c.enter_in.new.block h e at c.loop.counter c.loop.invariant
    c.loop-test.true hit'
    ∙ ap (λ k. Some (put_mid (512 * at) k d c.enter_in.new.block)) (sym size)

pub loop-preserved : goal.loop-preserved
loop-preserved c =
    let d = c.loop.dictionary in
    let at = c.loop.block in
    let h = hash_view c.new-hash.result in
    let e = entry_view c.args.entry.now in
    let size : 512 * at + 512 - 512 * at ≡ 512 = omega arith in
    let within : 512 * at + 512 ≤ length d = omega (arith, c.loop.invariant.size, c.loop.invariant.within) in
    let miss : (entered_in (take (512 * at + 512 - 512 * at) (drop (512 * at) d)) h e ≡ None)
    × (c.enter_in.new.block ≡ full_block (take (512 * at + 512 - 512 * at) (drop (512 * at) d))) =
    block_miss _ _ h e _ c.enter_in.ensures c.if-enter_in.false in
    let new : List ℕ = put_mid (512 * at) (512 * at + 512 - 512 * at) d c.enter_in.new.block in
    let part : length c.enter_in.new.block ≡ 512 * at + 512 - 512 * at =
    c.enter_in.auto.block
    ∙ length-take-le (512 * at + 512 - 512 * at) (drop (512 * at) d)
    (omega (arith, within, length-drop (512 * at) d)) in
    enter_step c.args.blocks c.args.dictionary.now d new h e at c.loop.counter c.loop.invariant c.loop-test.true
    (ap (λ k. entered_in (take k (drop (512 * at) d)) h e) (sym size) ∙ miss.0)
    (ap (λ k. put_mid (512 * at) k d c.enter_in.new.block) size
    ∙ ap (λ b. put_mid (512 * at) 512 d b)
    (miss.1 ∙ ap (λ k. full_block (take k (drop (512 * at) d))) size))
    (mid_size d c.enter_in.new.block (512 * at) (512 * at + 512 - 512 * at) (omega (arith, within)) part
    ∙ c.loop.invariant.size)
