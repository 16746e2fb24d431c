use Rattle.std.proofs.Common.{◌≡◌, ◌++◌, ◌-◌, ◌∙◌, ℕ, List, Bor, OnOk, [], if◌then◌else◌, ap, length, map}
use Rattle.std.proofs.Common.{subst}
use Rattle.std.proofs.Common.{sym, take}
use Rattle.std.specs.List.{flat_map, take-map}
use Rattle.std.proofs.lemmas.List.{length-map}
use Rattle.std.proofs.lemmas.List.Folds.{flat_map-map}
use Rattle.doslink_telling.specs.Lines.{wide_line}
use Rattle.doslink_telling.specs.Missing.{rest_text, told_count, told_lines}
use Rattle.doslink_telling.specs.Words.{word_at}
use Rattle.doslink_telling.proofs.Texts.{then-ok}
use Rattle.doslink_passes.specs.inside.WideSegments.{wide_words}
use Rattle.doslink_passes.proofs.widths.warn_of_wide_segments.Goals as goal

pub returns : goal.returns
returns g c =
    let r = c.push_rest.result in
    let s0 = c.args.lines.now.items in
    let s1 = c.push_told.new.lines.items in
    let s2 = c.push_rest.new.lines.items in
    let tells_all = c.args.request.now.job.now.verbose in
    let some = c.as_slice-words.result.now in
    let bytes : Bor (List ℕ) → List ℕ = λ w. w.now in
    let all = map bytes some in
    let n = c.told_count-told.result in
    let told = told_count (length all) tells_all in
    let len : length all ≡ length some = length-map some bytes in
    let same : n ≡ told = c.told_count-told.ensures.told ∙ ap (λ k. told_count k tells_all) (sym len) in
    let first : s1 ≡ s0 ++ flat_map wide_line (take told all) =
    c.in_ok-push_told.ensures ∙ ap (λ l. s0 ++ l) (sym (flat_map-map wide_line bytes (take n some)))
    ∙ ap (λ l. s0 ++ flat_map wide_line l) (sym (take-map bytes n some))
    ∙ ap (λ k. s0 ++ flat_map wide_line (take k all)) same in
    let left : length some - n ≡ length all - told = ap (λ k. k - n) (sym len) ∙ ap (λ k. length all - k) same in
    let found : all ≡ wide_words (word_at c.args.request.now.words.now) c.args.widths.now =
    ap (map bytes) c.as_slice-words.ensures.value ∙ c.in_ok-words.ensures in
    let lines : OnOk r (s2 ≡ s0 ++ told_lines wide_line all tells_all) =
    then-ok r s0 s1 s2 (flat_map wide_line (take told all)) (rest_text (length all - told)) first
    (subst (λ k. OnOk r (s2 ≡ s1 ++ rest_text k)) left c.push_rest.ensures) in
    subst (λ q. OnOk r (s2 ≡ s0 ++ (if q then [] else told_lines wide_line
    (wide_words (word_at c.args.request.now.words.now) c.args.widths.now) tells_all)))
    (sym c.if-request.false) (subst (λ l. OnOk r (s2 ≡ s0 ++ told_lines wide_line l tells_all)) found lines)
