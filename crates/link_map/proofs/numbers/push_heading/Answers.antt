use Rattle.std.proofs.Common.{rules, ◌≡◌, ◌++◌, ◌∷◌, [], OnOk, codes, map, subst}
use Rattle.omf_text.proofs.PrintLemmas.{pieces_joined}
use Rattle.link_map.proofs.numbers.push_heading.Goals as goal

pub returns : goal.returns
returns g c =
    let texts : map (λ piece. piece.now) c.as_slice-5.result.now
    ≡ codes "\nLine numbers for " ∷ c.args.file.now ∷ codes "(" ∷ c.args.name.now ∷ codes ") segment "
    ∷ c.args.segment.now ∷ codes "\n\n" ∷ [] = search rules in
    subst (λ l. OnOk c.push_pieces.result (c.push_pieces.new.text.items ≡ c.args.text.now.items ++ l))
    (pieces_joined _ _ texts) c.push_pieces.ensures
