use Rattle.std.proofs.Common.{◌≡◌, ◌++◌, ◌-◌, ◌∙◌, OnOk, [], if◌then◌else◌, ap, length, subst, sym, take}
use Rattle.std.specs.List.{flat_map}
use Rattle.doslink_telling.specs.Missing.{rest_text, told_count, told_lines}
use Rattle.doslink_telling.proofs.Texts.{then-ok}
use Rattle.doslink_asked.specs.inside.Idle.{idle_line}
use Rattle.doslink_asked.specs.inside.Spoken.{said_lines}
use Rattle.doslink_asked.proofs.directives.push_warnings.Goals as goal

pub returns : goal.returns
returns c =
    let r = c.push_rest.result in
    let s0 = c.args.lines.now.items in
    let s1 = c.push_told.new.lines.items in
    let s2 = c.push_rest.new.lines.items in
    let tells_all = c.args.directives.now.job.verbose in
    let all = c.as_slice-warnings.result.now in
    let n = c.told_count-told.result in
    let told = told_count (length all) tells_all in
    let line = idle_line (said_lines c.args.spoken.now.lines.items) in
    let same : n ≡ told = c.told_count-told.ensures.told in
    let first : s1 ≡ s0 ++ flat_map line (take told all) =
    c.in_ok-push_told.ensures ∙ ap (λ k. s0 ++ flat_map line (take k all)) same in
    let left : length all - n ≡ length all - told = ap (λ k. length all - k) same in
    let lines : OnOk r (s2 ≡ s0 ++ told_lines line all tells_all) =
    then-ok r s0 s1 s2 (flat_map line (take told all)) (rest_text (length all - told)) first
    (subst (λ k. OnOk r (s2 ≡ s1 ++ rest_text k)) left c.push_rest.ensures) in
    subst (λ q. OnOk r (s2 ≡ s0 ++ (if q then [] else told_lines line c.args.directives.now.warnings.items tells_all)))
    (sym c.if-directives.false)
    (subst (λ l. OnOk r (s2 ≡ s0 ++ told_lines line l tells_all)) c.as_slice-warnings.ensures.value lines)
