use Rattle.std.proofs.Common.{◌∙◌, ◌-◌, ◌++◌, ◌∷◌, [], ◌&&◌, None, Some}
use Rattle.std.proofs.Common.{ap, ap₂, arith, cond, nat_lt, sym, take}
use Rattle.omf_module.specs.Seen.{segment_seen}
use Rattle.omf_stack.specs.Cut.{cut_lengths}
use Rattle.omf_stack.specs.Stack.{stack_length}
use Rattle.omf_stack.proofs.Lengths.{length-append, length-cons}
use Rattle.omf_stack.proofs.Lists.{take_one}
use Rattle.omf_stack.proofs.Shortening.{lengths-more}
use Rattle.omf_stack.proofs.cutting.cut_lengths.Goals as goal

pub loop-index-preserved : goal.loop-index-preserved
loop-index-preserved g c =
    let stack = segment_seen c.args.stack.now in
    let ss = c.args.from.now.segments in
    let i = c.loop-index.index in
    let s = segment_seen c.segment-segment.result in
    let first = c.args.left.now in
    let inv = c.loop-index.invariant in
    let one = take_one ss i s c.segment-segment.ensures in
    let own = c.left_behind.ensures ∙ ap (λ b. c.loop-index.left - cond b s.length 0) c.is_of-is_part.ensures in
    let was = inv.1 in
    let longer = ap (stack_length stack) one ∙ length-append stack (take i ss) (s ∷ []) in
    let here = length-cons stack s [] in (
      c.in_ok-push.ensures.items
          ∙ ap₂ (λ ls l. ls ++ l ∷ []) inv.0
          (c.cut_length.ensures
          ∙ ap₂ (λ b n. cond (b && nat_lt n s.length) (Some n) None) c.is_of-is_part.ensures inv.1)
          ∙ sym (ap (cut_lengths stack first) one ∙ lengths-more stack first (take i ss) s),
      omega (arith, own, was, longer, here),
    )
