use Rattle.std.proofs.Common.{◌≡◌, ◌++◌, drop}
use Rattle.std.specs.List.{flat_map}
use Rattle.link_map.proofs.numbers.push_pieces.Given as goal

abbrev pub invariant-loop-piece : goal.invariant-loop-piece
invariant-loop-piece g l = l.text.items ++ flat_map (λ piece. piece.now) (drop l.piece-index l.fn.pieces)
    ≡ l.initial.text.items ++ flat_map (λ piece. piece.now) l.fn.pieces
