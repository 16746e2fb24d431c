use Rattle.std.proofs.Common.{rules, ◌≡◌, ◌∷◌, [], codes, decimal, map}
use Rattle.omf_frame.proofs.Told.{Wrote-same}
use Rattle.omf_faults.specs.FaultLines.{line_end}
use Rattle.omf_text.proofs.PrintLemmas.{pieces_joined}
use Rattle.omf_faults.proofs.lines.put_line_end.Goals as goal

pub returns-in_default : goal.returns-in_default
unfolding line_end
returns-in_default g c = rw c.in_default.is c.put_all.ensures

pub returns : goal.returns
unfolding line_end
returns g c =
    let texts : map (λ piece. piece.now) c.as_slice-3.result.now
    ≡ codes " byte " ∷ decimal c.in-Some.at ∷ codes "\n" ∷ [] = search rules in
    rw c.in-Some.is (Wrote-same _ _ _ _ _ _ _ (pieces_joined _ _ texts) c.put_pieces.ensures)
