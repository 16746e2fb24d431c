use Rattle.std.proofs.Common.{rules, ◌≡◌, ◌-◌, ◌∷◌, ◌++◌, ◌∙◌, [], OnOk, codes, decimal, length, map, replicate, subst}
use Rattle.std.proofs.Common.{sym}
use Rattle.std.proofs.Common.{append_assoc}
use Rattle.omf_text.specs.Printing.{hexadecimal}
use Rattle.omf_text.proofs.PrintLemmas.{pieces_joined}
use Rattle.link_map.proofs.numbers.push_number.Goals as goal

pub returns : goal.returns
returns g c =
    let number = decimal c.args.number in
    let frame_is : c.as_bytes-2.result.now ≡ hexadecimal 4 c.args.place.frame = search rules in
    let offset_is : c.as_bytes-3.result.now ≡ hexadecimal 4 c.args.place.offset = search rules in
    let number_is : c.as_bytes.result.now ≡ number = search rules in
    let texts : map (λ piece. piece.now) c.as_slice-3.result.now
    ≡ replicate (6 - length number) 32 ∷ number ∷ codes " " ∷ hexadecimal 4 c.args.place.frame ∷ codes ":"
    ∷ hexadecimal 4 c.args.place.offset ∷ [] = search rules in
    subst (λ l. OnOk c.push_pieces.result (c.push_pieces.new.text.items ≡ c.args.text.now.items ++ l))
    (pieces_joined _ _ texts ∙ sym (append_assoc (replicate (6 - length number) 32) number _)) c.push_pieces.ensures
