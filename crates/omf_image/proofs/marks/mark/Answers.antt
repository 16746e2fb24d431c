use Rattle.std.proofs.Common.{◌≡◌, ◌∙◌, ◌||◌, ◌&&◌, ℕ, ap, arith, get_or, leb, ltb, false}
use Rattle.omf_image.proofs.marks.mark.Goals as goal

pub returns : goal.returns
returns c j =
    let e : c.loop-k.k ≡ c.args.end = omega arith in
    c.loop-k.invariant j ∙ ap (λ (n : ℕ). get_or c.args.marks.now j false || (leb c.args.start j && ltb j n)) e
