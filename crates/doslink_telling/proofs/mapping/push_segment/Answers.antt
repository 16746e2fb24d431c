use Rattle.std.proofs.Common.{◌≡◌, [], ◌∷◌, ◌++◌, OnOk, ap, append_assoc, codes, subst, sym, ◌∙◌}
use Rattle.std.specs.List.{concat}
use Rattle.omf_text.specs.Printing.{hexadecimal, printed_name}
use Rattle.doslink_telling.proofs.mapping.push_segment.Goals as goal

pub returns : goal.returns
returns g c =
    let place = c.place_of-start.result in
    let start = hexadecimal 6 place.0 in
    let mark = place.1.now in
    let segment = c.args.segment.now in
    let rest =
    concat (codes " " ∷ hexadecimal 6 segment.length ∷ codes " " ∷ printed_name segment.name.now ∷ codes " "
    ∷ printed_name segment.class.now ∷ codes "\n" ∷ []) in
    subst (λ l. OnOk c.push_pieces.result (c.push_pieces.new.lines.items ≡ c.args.text.now.items ++ (codes " " ++ l)))
    (sym (append_assoc start mark rest) ∙ ap (λ address. address ++ rest) c.place_of-start.ensures)
    (rw c.as_slice.ensures at c.push_pieces.ensures)
