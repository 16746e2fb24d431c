use Rattle.std.proofs.Common.{rules, ◌≡◌, ◌∷◌, [], codes, map}
use Rattle.omf_frame.proofs.Told.{Wrote-same}
use Rattle.omf_text.specs.Printing.{hexadecimal}
use Rattle.omf_text.proofs.PrintLemmas.{pieces_joined}
use Rattle.link_map.proofs.map.put_start.Goals as goal

pub returns : goal.returns
returns g c =
    let cs_is : c.as_bytes.result.now ≡ hexadecimal 4 c.args.registers.cs = search rules in
    let ip_is : c.as_bytes-2.result.now ≡ hexadecimal 4 c.args.registers.ip = search rules in
    let texts : map (λ piece. piece.now) c.as_slice-4.result.now
    ≡ codes "\nProgram entry point at " ∷ hexadecimal 4 c.args.registers.cs ∷ codes ":"
    ∷ hexadecimal 4 c.args.registers.ip ∷ codes "\n" ∷ [] = search rules in
    Wrote-same _ _ _ _ _ _ _ (pieces_joined _ _ texts) c.put_pieces.ensures
