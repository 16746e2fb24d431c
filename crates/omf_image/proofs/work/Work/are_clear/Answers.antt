use Rattle.std.proofs.Common.{◌∙◌, ◌+◌, ℕ, List, sym, ap}
use Rattle.omf_image.specs.declared.patch.Patch.{Patch}
use Rattle.omf_image.specs.inside.Patches.{all_clear}
use Rattle.omf_image.specs.Value.{patches_at}
use Rattle.omf_image.proofs.Touched.{clear_nothing, clear_more, unclear_at}
use Rattle.omf_image.proofs.work.Work.are_clear.Goals as goal

pub loop-at-init : goal.loop-at-init
loop-at-init g c earlier m = clear_nothing earlier

pub returns-then-not-is_pair_clear : goal.returns-then-not-is_pair_clear
returns-then-not-is_pair_clear g c earlier m =
    let f : ℕ → List Patch =
    λ i. patches_at 0 c.args.resolved.now c.args.self_relative c.args.location i (c.args.start + i) in
    sym (unclear_at earlier f c.args.hits.now c.loop-at.at-index c.is_pair_clear.result c.loop-at-test.true
    (c.is_pair_clear.ensures earlier m ∙ ap (all_clear earlier) c.patches-first.ensures.patches)
    c.if-not-is_pair_clear.true)

pub loop-at-preserved : goal.loop-at-preserved
loop-at-preserved g c earlier m =
    let f : ℕ → List Patch =
    λ i. patches_at 0 c.args.resolved.now c.args.self_relative c.args.location i (c.args.start + i) in
    clear_more earlier f c.args.hits.now c.loop-at.at-index c.is_pair_clear.result c.loop-at-test.true
    (c.is_pair_clear.ensures earlier m ∙ ap (all_clear earlier) c.patches-first.ensures.patches)
    (c.loop-at.invariant earlier m) c.if-not-is_pair_clear.false
