use Rattle.std.proofs.Common.{◌≡◌, [], ◌∷◌, ◌++◌, OnOk, append-nil, codes, subst, sym, ◌∙◌}
use Rattle.std.proofs.lemmas.List.Folds.{concat-append}
use Rattle.std.specs.List.{concat}
use Rattle.doslink_stock.specs.Seen.{entry_held}
use Rattle.omf_text.specs.Printing.{printed_name}
use Rattle.doslink_telling.specs.Words.{module_word}
use Rattle.doslink_telling.proofs.Texts.{extended-ok, then-ok}
use Rattle.doslink_telling.proofs.missing.push_offering.Goals as goal

pub returns : goal.returns
returns g c =
    let r = c.extend_from_slice.result in
    let s0 = c.args.lines.now.items in
    let s1 = c.push_pieces.new.lines.items in
    let s2 = c.extend_from_slice.new.self.items in
    let word = module_word c.args.paths.now (entry_held c.args.entry.now) in
    let front = codes "; " ∷ printed_name c.args.name.now ∷ codes " is in " ∷ [] in
    subst (λ l. OnOk r (s2 ≡ s0 ++ l)) (sym (concat-append front (word ∷ [])))
    (then-ok r s0 s1 s2 (concat front) (word ++ []) (rw c.as_slice.ensures at c.in_ok-push_pieces.ensures)
    (subst (λ l. OnOk r (s2 ≡ s1 ++ l)) (c.deref.ensures.value ∙ c.in_ok-word.ensures ∙ sym (append-nil word))
    (extended-ok r s1 s2 c.deref.result.now c.extend_from_slice.ensures.items)))
