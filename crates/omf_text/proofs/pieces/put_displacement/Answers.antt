use Rattle.std.proofs.Common.{rules, ◌≡◌, ◌∷◌, [], codes, map}
use Rattle.omf_frame.proofs.Told.{Wrote-same}
use Rattle.omf_text.specs.Printing.{hexadecimal}
use Rattle.omf_text.proofs.PrintLemmas.{pieces_joined}
use Rattle.omf_text.proofs.pieces.put_displacement.Goals as goal

pub returns : goal.returns
returns g c =
    let texts : map (λ piece. piece.now) c.as_slice-2.result.now
    ≡ codes " displacement " ∷ hexadecimal 4 c.in-Some.displacement ∷ [] = search rules in
    rw c.in-Some.is (Wrote-same _ _ _ _ _ _ _ (pieces_joined _ _ texts) c.put_pieces.ensures)
