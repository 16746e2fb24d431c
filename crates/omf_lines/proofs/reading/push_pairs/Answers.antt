use Rattle.std.proofs.Common.{[], ◌∷◌, map, sym, refl}
use Rattle.omf_library.proofs.Listing.{left_first, left_more}
use Rattle.omf_lines.specs.Lines.{line_of, pair_front}
use Rattle.omf_lines.proofs.reading.push_pairs.Goals as goal

pub loop-pair-init : goal.loop-pair-init
loop-pair-init g c =
    left_first pair_front (map (line_of c.args.group c.args.segment)) c.args.bytes.now c.args.lines.now.items

pub loop-pair-preserved : goal.loop-pair-preserved
loop-pair-preserved g c =
    let of = line_of c.args.group c.args.segment in
    let pair = c.in-Some.pair in
    rw c.in_ok-push.ensures.items (left_more pair_front (map of) c.args.bytes.now c.loop-pair.rest.now
    c.in-Some.after.now c.args.lines.now.items c.loop-pair.lines.items pair (of pair ∷ []) c.loop-pair.invariant
    (sym c.in-Some.ensures.said) c.in-Some.ensures.shorter (λ xs. refl))
