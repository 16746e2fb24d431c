use Rattle.std.proofs.Common.{rules, ◌≡◌, ◌∷◌, [], codes, map}
use Rattle.omf_frame.proofs.Told.{Wrote-same}
use Rattle.omf_text.specs.Printing.{hexadecimal}
use Rattle.omf_text.proofs.PrintLemmas.{pieces_joined}
use Rattle.omf_commands.specs.Loading.{registers_line}
use Rattle.omf_commands.proofs.loading.put_registers.Goals as goal

pub returns : goal.returns
unfolding registers_line
returns g c =
    let cs_is : c.as_bytes.result.now ≡ hexadecimal 4 c.args.loaded.now.registers.cs = search rules in
    let ip_is : c.as_bytes-2.result.now ≡ hexadecimal 4 c.args.loaded.now.registers.ip = search rules in
    let ss_is : c.as_bytes-3.result.now ≡ hexadecimal 4 c.args.loaded.now.registers.ss = search rules in
    let sp_is : c.as_bytes-4.result.now ≡ hexadecimal 4 c.args.loaded.now.registers.sp = search rules in
    let texts : map (λ piece. piece.now) c.as_slice-6.result.now
    ≡ codes "CS:IP " ∷ hexadecimal 4 c.args.loaded.now.registers.cs ∷ codes ":"
    ∷ hexadecimal 4 c.args.loaded.now.registers.ip ∷ codes " SS:SP "
    ∷ hexadecimal 4 c.args.loaded.now.registers.ss ∷ codes ":" ∷ hexadecimal 4 c.args.loaded.now.registers.sp
    ∷ codes "\n" ∷ [] = search rules in
    Wrote-same _ _ _ _ _ _ _ (pieces_joined _ _ texts) c.put_pieces.ensures
