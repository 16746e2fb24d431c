use Rattle.std.proofs.Common.{rules, ◌≡◌, ◌∷◌, [], codes, map}
use Rattle.omf_frame.proofs.Told.{Wrote-same}
use Rattle.omf_text.proofs.PrintLemmas.{pieces_joined}
use Rattle.omf_faults.proofs.lines.put_output_line.Goals as goal

pub returns : goal.returns
returns g c =
    let texts : map (λ piece. piece.now) c.as_slice-3.result.now
    ≡ c.args.program.now ∷ codes ": " ∷ c.args.file.now ∷ codes ": 40 Device\n" ∷ [] = search rules in
    Wrote-same _ _ _ _ _ _ _ (pieces_joined _ _ texts) c.put_pieces.ensures
