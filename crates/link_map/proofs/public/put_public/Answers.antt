use Rattle.std.proofs.Common.{rules, ◌≡◌, ◌∷◌, [], codes, map}
use Rattle.omf_frame.proofs.Told.{Wrote-same}
use Rattle.omf_text.specs.Printing.{hexadecimal}
use Rattle.omf_text.proofs.PrintLemmas.{pieces_joined}
use Rattle.link_map.specs.Public.{mark, public_line}
use Rattle.link_map.proofs.public.put_public.Goals as goal

pub returns : goal.returns
unfolding public_line
returns g c =
    let frame_is : c.as_bytes.result.now ≡ hexadecimal 4 c.args.public.now.frame = search rules in
    let offset_is : c.as_bytes-2.result.now ≡ hexadecimal 4 c.args.public.now.offset = search rules in
    let texts : map (λ piece. piece.now) c.as_slice-4.result.now
    ≡ codes " " ∷ hexadecimal 4 c.args.public.now.frame ∷ codes ":" ∷ hexadecimal 4 c.args.public.now.offset
    ∷ mark c.args.public.now.is_absolute ∷ c.args.public.now.name.now ∷ codes "\n" ∷ [] = search rules in
    Wrote-same _ _ _ _ _ _ _ (pieces_joined _ _ texts) c.put_pieces.ensures
