use Rattle.std.proofs.Common.{◌≡◌, ◌∙◌, ◌||◌, ◌&&◌, ℕ, ap, arith, get_or, leb, ltb, false}
use Rattle.omf_match.proofs.marks.mark.Goals as goal

pub returns : goal.returns
returns c k =
    let e : c.loop-place.place ≡ c.args.end = omega arith in
    c.loop-place.invariant k ∙ ap (λ (n : ℕ). get_or c.args.marks.now k false || (leb c.args.start k && ltb k n)) e
