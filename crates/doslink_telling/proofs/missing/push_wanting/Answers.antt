use Rattle.std.proofs.Common.{[], ◌∷◌, ◌≡◌, ◌++◌, OnOk, ap, append-nil, codes, subst, sym, ◌∙◌}
use Rattle.std.proofs.lemmas.List.Folds.{concat-append}
use Rattle.std.specs.List.{concat}
use Rattle.omf_library.specs.Records.{module_records}
use Rattle.omf_library.specs.Wanting.{wanting_place}
use Rattle.omf_text.specs.Printing.{printed_name}
use Rattle.doslink_telling.specs.Missing.{header_text, record_text}
use Rattle.doslink_telling.specs.Table.{header_name}
use Rattle.doslink_telling.specs.Words.{module_word}
use Rattle.doslink_telling.specs.inside.Wanters.{wanter_held}
use Rattle.doslink_telling.proofs.Texts.{then-ok}
use Rattle.doslink_telling.proofs.missing.push_wanting.Goals as goal

pub returns : goal.returns
returns g c =
    let r = c.push_header.result in
    let s0 = c.args.lines.now.items in
    let s1 = c.push_lacking.new.lines.items in
    let s2 = c.push_record.new.lines.items in
    let s3 = c.push_header.new.lines.items in
    let bytes = c.args.wanter.now.entry.now.bytes.now in
    let word = module_word c.args.paths.now (wanter_held c.args.wanter.now) in
    let front = codes "doslink: " ∷ word ∷ codes ": " ∷ printed_name c.args.name.now ∷ codes " is missing" ∷ [] in
    let place = record_text (wanting_place c.args.name.now (module_records bytes 0)) in
    let header = header_text (header_name bytes) in
    let behind = place ∷ header ∷ [] in
    let first : s1 ≡ s0 ++ concat front =
    rw (c.deref.ensures.value ∙ c.in_ok-word.ensures) at c.in_ok-push_lacking.ensures in
    subst (λ l. OnOk r (s3 ≡ s0 ++ l)) (sym (concat-append front behind))
    (then-ok r s0 s1 s3 (concat front) (concat behind) first
    (then-ok r s1 s2 s3 place (header ++ [])
    (c.in_ok-push_record.ensures ∙ ap (λ o. s1 ++ record_text o) c.place.ensures)
    (subst (λ l. OnOk r (s3 ≡ s2 ++ l)) (sym (append-nil header)) c.push_header.ensures)))
