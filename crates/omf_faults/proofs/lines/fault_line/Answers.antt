use Rattle.std.proofs.Common.{rules, ◌≡◌, ◌∷◌, [], codes, map}
use Rattle.omf_frame.proofs.Told.{Wrote-same}
use Rattle.omf_text.proofs.PrintLemmas.{pieces_joined}
use Rattle.omf_faults.proofs.lines.fault_line.Goals as goal

pub returns-in-Memory : goal.returns-in-Memory
returns-in-Memory g c =
    let texts : map (λ piece. piece.now) c.as_slice-in-Memory.result.now
    ≡ c.args.program.now ∷ codes ": memory\n" ∷ [] = search rules in
    rw c.in-Memory.is (Wrote-same _ _ _ _ _ _ _ (pieces_joined _ _ texts) c.put_pieces.ensures)
