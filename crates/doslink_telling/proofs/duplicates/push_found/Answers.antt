use Rattle.std.proofs.Common.{◌≡◌, ◌++◌, ◌-◌, ◌∙◌, ap, append_assoc, length, map, sym, take}
use Rattle.std.proofs.lemmas.List.{length-map}
use Rattle.std.proofs.lemmas.Result.{on_ok_weaker}
use Rattle.std.specs.List.{flat_map, take-map}
use Rattle.doslink_telling.specs.Duplicates.{duplicate_line}
use Rattle.doslink_telling.specs.inside.Duplicates.{duplicate_said}
use Rattle.doslink_telling.specs.Missing.{rest_text, told_count}
use Rattle.omf_search.specs.Results.{bytes_of}
use Rattle.doslink_telling.proofs.duplicates.push_found.Goals as goal

pub returns : goal.returns
returns g c = on_ok_weaker c.push_rest.result (λ last. λ all is.
    let s0 = c.args.lines.now.items in
    let s1 = c.push_told.new.lines.items in
    let found = c.args.found.now in
    let said = map duplicate_said found in
    let n = c.told_count-told.result in
    let told = told_count (length said) c.args.tells_all in
    let line = duplicate_line (bytes_of c.args.words.now) all c.args.tells_all in
    let len : length said ≡ length found = length-map found duplicate_said in
    let same : n ≡ told = c.told_count-told.ensures.told ∙ ap (λ k. told_count k c.args.tells_all) (sym len) in
    let first : s1 ≡ s0 ++ flat_map line (take told said) =
    c.in_ok-push_told.ensures all is ∙ ap (λ l. s0 ++ flat_map line l) (sym (take-map duplicate_said n found))
    ∙ ap (λ k. s0 ++ flat_map line (take k said)) same in
    let left : length found - n ≡ length said - told = ap (λ k. k - n) (sym len) ∙ ap (λ k. length said - k) same in
    last ∙ ap (λ l. l ++ rest_text (length found - n)) first
    ∙ ap (λ k. (s0 ++ flat_map line (take told said)) ++ rest_text k) left
    ∙ append_assoc s0 (flat_map line (take told said)) (rest_text (length said - told))) c.push_rest.ensures
