use Rattle.std.proofs.Common.{rules, ◌≡◌, ◌-◌, ◌∷◌, [], codes, length, map, replicate}
use Rattle.omf_frame.proofs.Told.{Wrote-same}
use Rattle.omf_text.specs.Printing.{hexadecimal}
use Rattle.omf_text.proofs.PrintLemmas.{pieces_joined}
use Rattle.link_map.specs.Map.{name_width, stop}
use Rattle.link_map.proofs.map.put_segment.Goals as goal

pub returns : goal.returns
returns g c =
    let first_is : c.as_bytes.result.now ≡ hexadecimal 5 c.args.start = search rules in
    let last_is : c.as_bytes-2.result.now ≡ hexadecimal 5 (stop c.args.start c.args.size) = search rules in
    let length_is : c.as_bytes-3.result.now ≡ hexadecimal 5 c.args.size = search rules in
    let texts : map (λ piece. piece.now) c.as_slice-7.result.now
    ≡ codes " " ∷ hexadecimal 5 c.args.start ∷ codes "H " ∷ hexadecimal 5 (stop c.args.start c.args.size)
    ∷ codes "H " ∷ hexadecimal 5 c.args.size ∷ codes "H " ∷ c.args.segment.now.name.now
    ∷ replicate (name_width c.args.form - length c.args.segment.now.name.now) 32 ∷ codes " "
    ∷ c.args.segment.now.class.now ∷ codes "\n" ∷ [] = search rules in
    Wrote-same _ _ _ _ _ _ _ (pieces_joined _ _ texts) c.put_pieces.ensures
