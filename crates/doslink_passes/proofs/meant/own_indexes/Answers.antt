use Rattle.std.proofs.Common.{◌≡◌, ◌+◌, ◌++◌, ◌∷◌, [], suc, ap, arith, sym, ◌∙◌}
use Rattle.std.specs.List.{range_with_len}
use Rattle.doslink_passes.proofs.Passing.{range-more}
use Rattle.doslink_passes.proofs.meant.own_indexes.Goals as goal

pub loop-index-init : goal.loop-index-init
loop-index-init g c = c.new-indexes.ensures.items

pub loop-index-preserved : goal.loop-index-preserved
loop-index-preserved g c =
    let i = c.loop-index.index in
    let next : suc i ≡ i + 1 = omega arith in
    c.in_ok-push.ensures.items ∙ ap (λ l. l ++ (i + 1) ∷ []) c.loop-index.invariant
    ∙ sym (range-more 1 i (i + 1) (omega arith)) ∙ ap (range_with_len 1) next
