use Rattle.std.proofs.Common.{◌≡◌, ◌&&◌, ◌++◌, ◌-◌, ◌∙◌, Bool, OnOk, [], if◌then◌else◌, ap, ap₂, false, length, map}
use Rattle.std.proofs.Common.{not}
use Rattle.std.proofs.Common.{subst, sym, take}
use Rattle.std.specs.List.{flat_map, take-map}
use Rattle.std.proofs.lemmas.List.{length-map}
use Rattle.std.proofs.lemmas.List.Folds.{flat_map-map}
use Rattle.doslink_telling.specs.Missing.{rest_text, told_count, told_lines}
use Rattle.doslink_telling.proofs.Texts.{then-ok}
use Rattle.doslink_jobs.specs.inside.Absent.{absent_warning, library_said}
use Rattle.doslink_jobs.proofs.gathering.warn_of_absent.Goals as goal
use Rattle.doslink_jobs.proofs.gathering.warn_of_absent.Goals.{else-job-via-then-job+else-not-failed}
use Rattle.doslink_jobs.proofs.gathering.warn_of_absent.Goals.{else-job-via-else-job}

pub returns : goal.returns
returns g c =
    let r = c.push_rest.result in
    let s0 = c.args.lines.now.items in
    let s1 = c.push_told.new.lines.items in
    let s2 = c.push_rest.new.lines.items in
    let tells_all = c.args.job.now.verbose in
    let some = c.args.absent.now in
    let all = map library_said some in
    let n = c.told_count-told.result in
    let told = told_count (length all) tells_all in
    let len : length all ≡ length some = length-map some library_said in
    let same : n ≡ told = c.told_count-told.ensures.told ∙ ap (λ k. told_count k tells_all) (sym len) in
    let first : s1 ≡ s0 ++ flat_map absent_warning (take told all) =
    c.in_ok-push_told.ensures ∙ ap (λ l. s0 ++ l) (sym (flat_map-map absent_warning library_said (take n some)))
    ∙ ap (λ l. s0 ++ flat_map absent_warning l) (sym (take-map library_said n some))
    ∙ ap (λ k. s0 ++ flat_map absent_warning (take k all)) same in
    let left : length some - n ≡ length all - told = ap (λ k. k - n) (sym len) ∙ ap (λ k. length all - k) same in
    let lines : OnOk r (s2 ≡ s0 ++ told_lines absent_warning all tells_all) =
    then-ok r s0 s1 s2 (flat_map absent_warning (take told all)) (rest_text (length all - told)) first
    (subst (λ k. OnOk r (s2 ≡ s1 ++ rest_text k)) left c.push_rest.ensures) in
    let told-unless : (q : Bool) → q ≡ false → OnOk r
    (s2 ≡ s0 ++ (if q then [] else told_lines absent_warning all tells_all)) =
    λ q off. subst (λ q. OnOk r (s2 ≡ s0 ++ (if q then [] else told_lines absent_warning all tells_all))) (sym off)
    lines in
    elim c.else-job.branch [
      | else-job-via-then-job+else-not-failed w ↦
          told-unless _ (ap₂ (λ quiet failed. quiet && not failed) w.if-job.true w.if-not-failed.false)
      | else-job-via-else-job w ↦ told-unless _ (ap (λ quiet. quiet && not c.args.failed) w.if-job.false)
    ]
