use Rattle.std.proofs.Common.{[], ◌∷◌, filter, map, sym}
use Rattle.omf_library.proofs.Listing.{left_first, left_more}
use Rattle.omf_lines.specs.Lines.{is_in_16_bits, line_of, wide_pair_front}
use Rattle.omf_lines.proofs.Wide.{first-wide}
use Rattle.omf_lines.proofs.reading.push_wide_pairs.Goals as goal

pub loop-pair-init : goal.loop-pair-init
loop-pair-init g c =
    left_first wide_pair_front (λ pairs. map (line_of c.args.group c.args.segment) (filter is_in_16_bits pairs))
    c.args.bytes.now c.args.lines.now.items

pub loop-pair-preserved : goal.loop-pair-preserved
loop-pair-preserved g c =
    let of = line_of c.args.group c.args.segment in
    let pair = c.in-Some.pair in
    rw c.in_ok-push_wide_line.ensures (left_more wide_pair_front (λ pairs. map of (filter is_in_16_bits pairs))
    c.args.bytes.now c.loop-pair.rest.now c.in-Some.after.now c.args.lines.now.items c.loop-pair.lines.items pair
    (map of (filter is_in_16_bits (pair ∷ []))) c.loop-pair.invariant (sym c.in-Some.ensures.said)
    c.in-Some.ensures.shorter (first-wide of pair))
