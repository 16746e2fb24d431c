use Rattle.std.proofs.Common.{[], map, take, subst, sym, arith, ◌∙◌}
use Rattle.std.proofs.lemmas.List.{length-map, take_all}
use Rattle.doslink_stock.specs.Seen.{handed_held}
use Rattle.doslink_passes.specs.Plain.{AreTaken}
use Rattle.doslink_passes.specs.inside.Plains.{fates_in, made_in, takes_in}
use Rattle.doslink_passes.proofs.Refused.{refused-exit}
use Rattle.doslink_passes.proofs.Taking.{none-next, taken-next}
use Rattle.doslink_passes.proofs.plain.all_taken.Goals as goal

pub loop-index-init : goal.loop-index-init
loop-index-init g c =
    let all = c.args.all.now in
    let takes = takes_in c.args.request.now.job.now.keep_debug all in
    subst (λ ms. AreTaken takes (made_in all) [] [] ms c.new-widths.result.items) (sym c.new-modules.ensures.items)
    (subst (λ ws. AreTaken takes (made_in all) [] [] [] ws) (sym c.new-widths.ensures.items) tt)

pub loop-index-preserved : goal.loop-index-preserved
loop-index-preserved g c =
    let all = c.args.all.now in
    taken-next (takes_in c.args.request.now.job.now.keep_debug all) (made_in all) (λ h. (handed_held h).bytes)
    c.args.request.now.handed.now (fates_in all) c.loop-index.index c.index-handed-index.result
    c.fates_at.result.now c.loop-index.modules.items c.push.new.self.items c.loop-index.widths.items
    c.push-in-loop-index.new.self.items _ _ c.loop-index-test.true
    (length-map all.fates.now (λ v. v.items) ∙ c.requires) c.index-handed-index.is c.fates_at.ensures
    c.loop-index.invariant c.in_ok-plain.ensures c.in_ok-push.ensures.items c.in_ok-push-2.ensures.items

pub returns-in_err-plain : goal.returns-in_err-plain
returns-in_err-plain g c =
    let all = c.args.all.now in
    refused-exit _ c.from_residual.result _ c.from_residual.ensures.1
    (none-next (takes_in c.args.request.now.job.now.keep_debug all) (λ h. (handed_held h).bytes)
    c.args.request.now.handed.now (fates_in all) c.loop-index.index c.index-handed-index.result
    c.fates_at.result.now c.loop-index-test.true (length-map all.fates.now (λ v. v.items) ∙ c.requires)
    c.index-handed-index.is c.fates_at.ensures)
    c.in_err-plain.ensures

pub returns : goal.returns
returns g c =
    let all = c.args.all.now in
    let takes = takes_in c.args.request.now.job.now.keep_debug all in
    let handed = c.args.request.now.handed.now in
    subst (λ hs. AreTaken takes (made_in all) (map (λ h. (handed_held h).bytes) hs) (fates_in all)
    c.loop-index.modules.items c.loop-index.widths.items)
    (take_all c.loop-index.index handed (omega arith))
    (subst (λ fs. AreTaken takes (made_in all) (map (λ h. (handed_held h).bytes) (take c.loop-index.index handed)) fs
    c.loop-index.modules.items c.loop-index.widths.items)
    (take_all c.loop-index.index (fates_in all)
    (omega (arith, c.requires, length-map all.fates.now (λ v. v.items))))
    c.loop-index.invariant)
