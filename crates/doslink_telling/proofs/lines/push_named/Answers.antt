use Rattle.std.proofs.Common.{◌≡◌, [], ◌∷◌, ◌++◌, OnOk, codes, decimal, subst, sym}
use Rattle.std.proofs.lemmas.List.Folds.{concat-append}
use Rattle.std.specs.List.{concat}
use Rattle.omf_search.specs.Results.{bytes_of}
use Rattle.omf_text.specs.Printing.{printed_name}
use Rattle.doslink_telling.specs.Lines.{listed}
use Rattle.doslink_telling.proofs.Texts.{extended-ok, then-ok}
use Rattle.doslink_telling.proofs.lines.push_named.Goals as goal

pub returns : goal.returns
returns g c =
    let r = c.extend_from_slice.result in
    let s0 = c.args.lines.now.items in
    let s1 = c.push_label.new.lines.items in
    let s2 = c.push_listed.new.lines.items in
    let s3 = c.extend_from_slice.new.self.items in
    let front =
    codes "doslink: link: " ∷ decimal c.args.label.0 ∷ codes " " ∷ c.args.label.1.now ∷ codes " "
    ∷ printed_name c.args.name.now ∷ [] in
    let words = listed (bytes_of c.args.words.now) in
    let rest = words ∷ codes "\n" ∷ [] in
    subst (λ l. OnOk r (s3 ≡ s0 ++ l)) (sym (concat-append front rest))
    (then-ok r s0 s1 s3 (concat front) (concat rest) c.in_ok-push_label.ensures
    (then-ok r s1 s2 s3 words (codes "\n") c.in_ok-push_listed.ensures
    (extended-ok r s2 s3 (codes "\n") c.extend_from_slice.ensures.items)))
