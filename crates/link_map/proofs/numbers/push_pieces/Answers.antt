use Rattle.std.proofs.Common.{rules, ◌<◌, length}
use Rattle.link_map.proofs.Texts.{all-done, all-more}
use Rattle.link_map.proofs.numbers.push_pieces.Goals as goal

pub loop-piece-preserved : goal.loop-piece-preserved
loop-piece-preserved g c =
    let here : c.loop-piece.piece-index < length c.args.pieces.now = search rules in
    all-more (λ piece. piece.now) c.args.pieces.now c.loop-piece.piece-index _ c.loop-piece.text.items _ _ here
    c.in_ok-extend_from_slice.ensures.items c.loop-piece.invariant

pub returns : goal.returns
returns g c =
    all-done (λ piece. piece.now) c.args.pieces.now c.loop-piece.piece-index _ _ c.loop-piece-test.false
    c.loop-piece.invariant
