use Rattle.std.proofs.Common.{◌≡◌, ap, false, is_some, sym, true, ◌∙◌}
use Rattle.std.specs.Option.{option_map_or}
use Rattle.doslink_asked.specs.Paths.{extension_of, is_other_form}
use Rattle.doslink_jobs.proofs.Placing.{form-said, form-unsaid, not-some, out-none}
use Rattle.doslink_jobs.proofs.Refused.{OnHalt-words}
use Rattle.doslink_jobs.proofs.places.check_form.Goals as goal

pub returns-then-is_some : goal.returns-then-is_some
returns-then-is_some g c = form-said c.args.job.now.form _ (sym c.is_some.ensures ∙ c.if-is_some.true)

pub returns-in_default : goal.returns-in_default
returns-in_default g c =
    form-unsaid c.args.job.now.form _ false (sym c.is_some.ensures ∙ c.if-is_some.false)
    (out-none (λ out. is_other_form (extension_of out.now)) c.args.job.now.out c.in_default.not-Some)

pub returns-in-Some-other_form : goal.returns-in-Some-other_form
returns-in-Some-other_form g c =
    OnHalt-words ⊥ c.stop_at_path.result c.stop_at_path.ensures
    (form-unsaid c.args.job.now.form _ true (sym c.is_some.ensures ∙ c.if-is_some.false)
    (ap (λ out. option_map_or (λ o. is_other_form (extension_of o.now)) out false) c.in-Some.is
    ∙ sym (c.in-Some-other_form.ensures ∙ ap is_other_form (c.as_bytes.ensures.value ∙ c.extension_of.ensures))))

pub returns : goal.returns
returns g c =
    let untold : is_some c.other_form.result ≡ false =
    not-some c.other_form.result c.in_default-other_form.not-Some in
    form-unsaid c.args.job.now.form _ false (sym c.is_some.ensures ∙ c.if-is_some.false)
    (ap (λ out. option_map_or (λ o. is_other_form (extension_of o.now)) out false) c.in-Some.is
    ∙ sym (c.other_form.ensures ∙ ap is_other_form (c.as_bytes.ensures.value ∙ c.extension_of.ensures)) ∙ untold)
