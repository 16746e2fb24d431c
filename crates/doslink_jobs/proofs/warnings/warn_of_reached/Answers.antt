use Rattle.std.proofs.Common.{◌≡◌, ◌++◌, ◌-◌, ◌∙◌, OnOk, ap, length, map, subst, sym, take}
use Rattle.std.specs.List.{flat_map, take-map}
use Rattle.std.proofs.lemmas.List.{length-map}
use Rattle.std.proofs.lemmas.List.Folds.{flat_map-map}
use Rattle.omf_communal.specs.Deciding.{variable_said}
use Rattle.omf_communal.specs.Far.{far_by_offset, reached_said}
use Rattle.doslink_link.specs.Linking.{bytes_of}
use Rattle.doslink_telling.specs.Missing.{rest_text, told_count, told_lines}
use Rattle.doslink_telling.proofs.Texts.{then-ok}
use Rattle.doslink_jobs.specs.inside.Warnings.{reached_warning}
use Rattle.doslink_jobs.proofs.warnings.warn_of_reached.Goals as goal

pub returns : goal.returns
returns g c =
    let r = c.push_rest.result in
    let s0 = c.args.lines.now.items in
    let s1 = c.push_told.new.lines.items in
    let s2 = c.push_rest.new.lines.items in
    let tells_all = c.args.job.now.verbose in
    let some = c.as_slice-reached.result.now in
    let all = map reached_said some in
    let n = c.told_count-told.result in
    let told = told_count (length all) tells_all in
    let line = reached_warning (bytes_of c.args.words.now) in
    let len : length all ≡ length some = length-map some reached_said in
    let same : n ≡ told = c.told_count-told.ensures.told ∙ ap (λ k. told_count k tells_all) (sym len) in
    let first : s1 ≡ s0 ++ flat_map line (take told all) =
    c.in_ok-push_told.ensures ∙ ap (λ l. s0 ++ l) (sym (flat_map-map line reached_said (take n some)))
    ∙ ap (λ l. s0 ++ flat_map line l) (sym (take-map reached_said n some))
    ∙ ap (λ k. s0 ++ flat_map line (take k all)) same in
    let left : length some - n ≡ length all - told = ap (λ k. k - n) (sym len) ∙ ap (λ k. length all - k) same in
    let found : all ≡ far_by_offset _ (map variable_said c.args.variables.now) c.args.modules.now =
    ap (map reached_said) c.as_slice-reached.ensures.value ∙ c.in_ok-reached.ensures
    ∙ ap (λ n. far_by_offset n (map variable_said c.args.variables.now) c.args.modules.now) c.names_of.ensures in
    subst (λ l. OnOk r (s2 ≡ s0 ++ told_lines line l tells_all)) found
    (then-ok r s0 s1 s2 (flat_map line (take told all)) (rest_text (length all - told)) first
    (subst (λ k. OnOk r (s2 ≡ s1 ++ rest_text k)) left c.push_rest.ensures))
