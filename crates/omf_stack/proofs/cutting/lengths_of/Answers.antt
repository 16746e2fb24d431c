use Rattle.std.proofs.Common.{◌∙◌, ◌∷◌, ◌++◌, [], ap, ap₂, arith, sym, take}
use Rattle.std.proofs.lemmas.List.{take_all, take_more}
use Rattle.omf_module.specs.Seen.{segment_seen}
use Rattle.omf_stack.specs.Cut.{cut_lengths}
use Rattle.omf_stack.specs.Stack.{segments, stack_length}
use Rattle.omf_stack.specs.inside.Cutting as told
use Rattle.omf_stack.proofs.EachModule.{lengths-more, lists-more}
use Rattle.omf_stack.proofs.Lengths as lengths
use Rattle.omf_stack.proofs.Shortening.{segments-more}
use Rattle.omf_stack.proofs.cutting.lengths_of.Goals as goal

pub loop-from-preserved : goal.loop-from-preserved
loop-from-preserved g c =
    let st = segment_seen c.args.stack.now in
    let ms = c.args.modules.now in
    let i = c.loop-from.from-index in
    let m = c.from-item.result in
    let inv = c.loop-from.invariant in
    let was-left = inv.left in
    let now-left = c.in_ok-lengths.ensures.left in
    let more = segments-more ms i m c.loop-from-test.true c.from-item.is in
    let sum = ap (stack_length st) more ∙ lengths.length-append st (segments (take i ms)) m.segments in
    let these = take_more ms i m c.loop-from-test.true
    ∙ ap (λ y. take i ms ++ y ∷ []) (sym c.from-item.is) in
    record {
      lengths = ap told.lists c.in_ok-push.ensures.items ∙ lists-more c.loop-from.all.items c.in_ok-lengths.lengths
          ∙ ap₂ (λ xs y. xs ++ y ∷ []) inv.lengths
          (c.in_ok-lengths.ensures.lengths ∙ ap (λ n. cut_lengths st n m.segments) was-left)
          ∙ sym (ap (told.lengths_of st c.args.asked) these ∙ lengths-more st c.args.asked (take i ms) m);
      left = omega (arith, was-left, now-left, sum);
    }

pub returns : goal.returns
returns g c =
    c.loop-from.invariant.lengths
    ∙ ap (told.lengths_of (segment_seen c.args.stack.now) c.args.asked)
    (take_all c.loop-from.from-index c.args.modules.now (omega arith))
