use Rattle.std.proofs.Common.{◌≡◌, ◌++◌, ◌-◌, ◌∙◌, OnOk, ap, length, map, subst, sym, take}
use Rattle.std.specs.List.{flat_map, take-map}
use Rattle.std.proofs.lemmas.List.{length-map}
use Rattle.omf_search.specs.Results.{wanted_said}
use Rattle.doslink_stock.specs.Seen.{entry_held, handed_held}
use Rattle.doslink_telling.specs.Missing.{missing_line, rest_text, told_count}
use Rattle.doslink_telling.proofs.Texts.{then-ok}
use Rattle.doslink_telling.proofs.missing.push_missing_lines.Goals as goal

pub returns : goal.returns
returns g c =
    let r = c.push_rest.result in
    let s0 = c.args.lines.now.items in
    let s1 = c.push_told_lines.new.lines.items in
    let s2 = c.push_rest.new.lines.items in
    let missing = c.args.missing.now in
    let all = map wanted_said missing in
    let n = c.told_count-told.result in
    let told = told_count (length all) c.args.tells_all in
    let line = missing_line c.args.paths.now (map handed_held c.args.handed.now)
    (map entry_held c.args.stock.now.members.items) in
    let len : length all ≡ length missing = length-map missing wanted_said in
    let same : n ≡ told = c.told_count-told.ensures.told ∙ ap (λ k. told_count k c.args.tells_all) (sym len) in
    let first : s1 ≡ s0 ++ flat_map line (take told all) =
    c.in_ok-push_told_lines.ensures ∙ ap (λ l. s0 ++ flat_map line l) (sym (take-map wanted_said n missing))
    ∙ ap (λ k. s0 ++ flat_map line (take k all)) same in
    let left : length missing - n ≡ length all - told = ap (λ k. k - n) (sym len) ∙ ap (λ k. length all - k) same in
    then-ok r s0 s1 s2 (flat_map line (take told all)) (rest_text (length all - told)) first
    (subst (λ k. OnOk r (s2 ≡ s1 ++ rest_text k)) left c.push_rest.ensures)
