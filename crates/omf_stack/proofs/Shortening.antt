-- Cutting, one segment or module more at a time.
use Rattle.std.proofs.Common.{◌≡◌, ℕ, ◌+◌, ◌-◌, ◌<◌, List, [], ◌∷◌, ◌++◌}
use Rattle.std.proofs.Common.{length, take, get_or, refl, ap, sym, ◌∙◌, arith}
use Rattle.omf_module.specs.Module.{Module, Segment}
use Rattle.omf_stack.specs.Cut.{cut_length, cut_lengths}
use Rattle.omf_stack.specs.Stack.{segments, stack_length}
use Rattle.omf_stack.proofs.Lists.{flat_turn}
use Rattle.omf_stack.proofs.Lengths.{length-append}

-- the lengths of segments, one more
pub lengths-more : (stack : Segment) (left : ℕ) (ss : List Segment) (s : Segment) →
    cut_lengths stack left (ss ++ s ∷ []) ≡ cut_lengths stack left ss ++ cut_length stack (left - stack_length stack ss) s ∷ []
lengths-more stack left [] s =
    let e : left ≡ left - 0 = omega arith in ap (λ n. cut_length stack n s ∷ []) e
lengths-more stack left (t ∷ ss) s =
    let less = left - stack_length stack (t ∷ []) in
    let one = length-append stack (t ∷ []) ss in
    let e : less - stack_length stack ss ≡ left - stack_length stack (t ∷ ss) = omega (arith, one) in
    ap (λ ls. cut_length stack left t ∷ ls)
    (lengths-more stack less ss s ∙ ap (λ n. cut_lengths stack less ss ++ cut_length stack n s ∷ []) e)

-- the segments of modules, one more
pub segments-more : (ms : List Module) (i : ℕ) (m : Module) → i < length ms → m ≡ get_or ms i m
    → segments (take (i + 1) ms) ≡ segments (take i ms) ++ m.segments
segments-more ms i m h e =
    sym (flat_turn (λ (x : Module). x.segments) ms i m (segments (take i ms)) _ h e refl refl)
