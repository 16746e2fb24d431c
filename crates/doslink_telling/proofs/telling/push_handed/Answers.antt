use Rattle.std.proofs.Common.{[], ◌∷◌, codes}
use Rattle.std.specs.List.{concat}
use Rattle.omf_text.specs.Printing.{printed_name}
use Rattle.doslink_telling.proofs.Texts.{extended-ok, then-ok}
use Rattle.doslink_telling.proofs.telling.push_handed.Goals as goal

pub returns-in-None : goal.returns-in-None
returns-in-None g c =
    let r = c.extend_from_slice-in-None.result in
    let front = c.extend_from_slice.new.self.items in
    let whole = c.extend_from_slice-in-None.new.self.items in
    rw c.in-None.is
    (then-ok r c.args.text.now.items front whole c.args.word.now (codes "\n") c.in_ok-extend_from_slice.ensures.items
    (extended-ok r front whole (codes "\n") c.extend_from_slice-in-None.ensures.items))

pub returns-in-Some : goal.returns-in-Some
returns-in-Some g c =
    let taken = concat (codes " for " ∷ printed_name c.in-Some.name.now ∷ codes "\n" ∷ []) in
    rw c.in-Some.is
    (then-ok c.push_pieces.result c.args.text.now.items c.extend_from_slice.new.self.items c.push_pieces.new.lines.items
    c.args.word.now taken c.in_ok-extend_from_slice.ensures.items (rw c.as_slice.ensures at c.push_pieces.ensures))
