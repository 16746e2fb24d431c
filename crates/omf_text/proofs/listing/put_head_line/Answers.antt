use Rattle.std.proofs.Common.{rules, ◌≡◌, ◌∷◌, [], ◌-◌, codes, decimal, length, replicate, map}
use Rattle.omf_frame.proofs.Told.{Wrote-same}
use Rattle.omf_text.specs.Listing.{head_line, record_name}
use Rattle.omf_text.specs.Printing.{hexadecimal}
use Rattle.omf_text.proofs.PrintLemmas.{columns_joined}
use Rattle.omf_text.proofs.listing.put_head_line.Goals as goal

pub returns : goal.returns
unfolding head_line
returns g c =
    let place_is : c.as_bytes.result.now ≡ hexadecimal 8 c.args.place = search rules in
    let kind_is : c.as_bytes-2.result.now ≡ hexadecimal 2 c.args.kind = search rules in
    let name_is : c.as_bytes-3.result.now ≡ record_name c.args.kind = search rules in
    let length_is : c.as_bytes-4.result.now ≡ decimal c.args.length = search rules in
    let behind : c.spaces.result.now ≡ replicate (7 - length (record_name c.args.kind)) 32 = search rules in
    let before : c.spaces-2.result.now ≡ replicate (5 - length (decimal c.args.length)) 32 = search rules in
    let texts : map (λ piece. piece.now) c.as_slice-5.result.now
    ≡ hexadecimal 8 c.args.place ∷ codes " " ∷ hexadecimal 2 c.args.kind ∷ codes " " ∷ record_name c.args.kind
    ∷ replicate (7 - length (record_name c.args.kind)) 32 ∷ codes " "
    ∷ replicate (5 - length (decimal c.args.length)) 32
    ∷ decimal c.args.length ∷ codes "\n" ∷ [] = search rules in
    Wrote-same _ _ _ _ _ _ _ (columns_joined _ _ _ _ _ _ _ _ _ _ _ texts) c.put_pieces.ensures
