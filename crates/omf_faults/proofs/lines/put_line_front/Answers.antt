use Rattle.std.proofs.Common.{rules, ◌≡◌, ◌∷◌, [], codes, decimal, map}
use Rattle.omf_frame.proofs.Told.{Wrote-same}
use Rattle.omf_faults.specs.FaultLines.{line_front}
use Rattle.omf_text.proofs.PrintLemmas.{pieces_joined}
use Rattle.omf_faults.proofs.lines.put_line_front.Goals as goal

pub returns : goal.returns
unfolding line_front
returns g c =
    let number_is : c.format-number.result.now ≡ decimal c.args.number = search rules in
    let place_is : c.format-place.result.now ≡ decimal c.args.place = search rules in
    let texts : map (λ piece. piece.now) c.as_slice-5.result.now
    ≡ c.args.program.now ∷ codes ": " ∷ c.args.file.now ∷ codes ": " ∷ decimal c.args.number ∷ codes " "
    ∷ c.args.name.now ∷ codes " at record " ∷ decimal c.args.place ∷ [] = search rules in
    Wrote-same _ _ _ _ _ _ _ (pieces_joined _ _ texts) c.put_pieces.ensures
