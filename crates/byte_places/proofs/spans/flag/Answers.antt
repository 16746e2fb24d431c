use Rattle.std.proofs.Common.{◌≡◌, ◌∙◌, ◌||◌, ◌&&◌, ℕ, ap, arith, get_or, leb, ltb, false, min, length}
use Rattle.byte_places.proofs.Spanning.{cut-span}
use Rattle.byte_places.proofs.spans.flag.Goals as goal

pub returns : goal.returns
returns c k =
    let start = c.args.span.start in
    let stop = c.args.span.end in
    let len = length c.args.flags.now in
    let last : c.loop-place.place ≡ min stop len = omega arith in
    c.loop-place.invariant k
    ∙ ap (λ (n : ℕ). get_or c.args.flags.now k false || (leb (min start (min stop len)) k && ltb k n)) last
    ∙ ap (λ t. get_or c.args.flags.now k false || t) (cut-span k start stop len)
