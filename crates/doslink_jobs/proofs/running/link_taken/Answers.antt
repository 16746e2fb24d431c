use Rattle.std.proofs.Common.{map, ap, inl, inr, refl, subst, sym, ◌∙◌}
use Rattle.omf_communal.specs.Deciding.{variable_said}
use Rattle.doslink_stock.specs.Seen.{handed_held}
use Rattle.doslink_passes.specs.Communals.{AreVariablesOf}
use Rattle.doslink_passes.specs.Request.{given_of, held_of, names_of, says_of}
use Rattle.doslink_passes.proofs.Lists.{map-map}
use Rattle.doslink_passes.proofs.Refused.{refused-exit, steps-weaker}
use Rattle.doslink_jobs.proofs.Doing.{faulty-with, linked-with, missing-with, refused-with}
use Rattle.doslink_jobs.proofs.running.link_taken.Goals as goal

pub returns-in_err-check_foreign : goal.returns-in_err-check_foreign
returns-in_err-check_foreign g c =
    let r = c.args.request.now in
    refused-exit _ c.from_residual.result _ c.from_residual.ensures.1
    (faulty-with _ r.job.now (held_of r) (says_of r) (given_of r) c.requires
    (map-map handed_held (λ m. m.bytes) r.handed.now))
    c.in_err-check_foreign.ensures

pub returns-in_err-variables : goal.returns-in_err-variables
returns-in_err-variables g c =
    refused-exit _ c.from_residual-in_err-variables.result _ c.from_residual-in_err-variables.ensures.1
    (λ none. (held_of c.args.request.now, refl, inr (inl none))) c.in_err-variables.ensures

pub returns-in_err-marks : goal.returns-in_err-marks
returns-in_err-marks g c =
    let r = c.args.request.now in
    refused-exit _ c.from_residual-in_err-marks.result _ c.from_residual-in_err-marks.ensures.1
    (missing-with _ r.job.now (held_of r) (map variable_said c.in_ok-variables.variables.items) (says_of r)
    (given_of r) c.requires (map-map handed_held (λ m. m.bytes) r.handed.now) c.in_ok-variables.ensures)
    c.in_err-marks.ensures

pub returns : goal.returns
returns g c =
    let r = c.args.request.now in
    let vs = map variable_said c.deref.result.now in
    let are = subst (λ l. AreVariablesOf (names_of r.job.now.ignore_case) (held_of r) (map variable_said l))
    (sym c.deref.ensures.value) c.in_ok-variables.ensures in
    steps-weaker c.link_checked.result
    (λ done. linked-with _ r.job.now _ c.in_ok-marks.marks (held_of r) vs (says_of r) c.requires are
    c.in_ok-marks.ensures)
    (refused-with _ r.job.now c.in_ok-marks.marks (held_of r) vs (says_of r) c.requires are
    c.in_ok-marks.ensures.1) c.link_checked.ensures
