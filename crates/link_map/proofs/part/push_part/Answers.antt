use Rattle.std.proofs.Common.{rules, ◌≡◌, ◌++◌, ◌∷◌, [], OnOk, codes, map, subst}
use Rattle.omf_text.specs.Printing.{hexadecimal}
use Rattle.omf_text.proofs.PrintLemmas.{pieces_joined}
use Rattle.link_map.specs.Detailed.{blanks, part_line}
use Rattle.link_map.specs.inside.Details.{part_seen}
use Rattle.link_map.proofs.part.push_part.Goals as goal

pub returns : goal.returns
unfolding part_line
returns g c =
    let part = part_seen c.args.part.now in
    let frame_is : c.as_bytes.result.now ≡ hexadecimal 4 part.place.frame = search rules in
    let offset_is : c.as_bytes-2.result.now ≡ hexadecimal 4 part.place.offset = search rules in
    let length_is : c.as_bytes-3.result.now ≡ hexadecimal 4 part.length = search rules in
    let attributes_are : c.as_bytes-4.result.now ≡ hexadecimal 2 part.attributes = search rules in
    let texts : map (λ piece. piece.now) c.as_slice-10.result.now
    ≡ codes " " ∷ hexadecimal 4 part.place.frame ∷ codes ":" ∷ hexadecimal 4 part.place.offset ∷ codes " "
    ∷ hexadecimal 4 part.length ∷ codes " C=" ∷ part.class ∷ blanks 6 part.class ∷ codes " S=" ∷ part.place.name
    ∷ blanks 14 part.place.name ∷ codes " G=" ∷ part.group ∷ blanks 7 part.group ∷ codes " M=" ∷ part.module_name
    ∷ blanks 9 part.module_name ∷ codes " ACBP=" ∷ hexadecimal 2 part.attributes ∷ codes "\n" ∷ [] = search rules in
    subst (λ l. OnOk c.push_pieces.result (c.push_pieces.new.text.items ≡ c.args.text.now.items ++ l))
    (pieces_joined _ _ texts) c.push_pieces.ensures
