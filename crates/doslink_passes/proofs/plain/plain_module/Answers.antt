use Rattle.std.proofs.Common.{subst, ◌∙◌}
use Rattle.omf_alias.specs.Meaning.{Renaming}
use Rattle.omf_alias.specs.Said.{renaming_said}
use Rattle.omf_plain.specs.Modules.{IsPlainModule}
use Rattle.omf_plain.specs.Plain.{Taking}
use Rattle.doslink_passes.specs.Plain.{IsNoPlain}
use Rattle.doslink_passes.proofs.Refused.{OnInput-holds}
use Rattle.doslink_passes.proofs.Taking.{no-plain}
use Rattle.doslink_passes.proofs.plain.plain_module.Goals as goal

pub returns-in-Ok : goal.returns-in-Ok
returns-in-Ok g c =
    let how = c.args.how.now in
    subst (λ n. IsPlainModule (record { keep_debug = how.keep_debug; renaming = n; comdats = how.comdats.now })
    c.args.given.bytes.now c.in-Ok.plain.module c.in-Ok.plain.widths) (c.renaming.ensures ∙ c.in_ok-aliases.ensures)
    c.in-Ok.ensures

pub returns : goal.returns
returns g c =
    let how = c.args.how.now in
    let by : Renaming → Taking =
    λ n. record { keep_debug = how.keep_debug; renaming = n; comdats = how.comdats.now } in
    OnInput-holds c.stop_after.result
    (subst (λ n. IsNoPlain (by n) c.args.given.bytes.now) (c.renaming.ensures ∙ c.in_ok-aliases.ensures)
    (no-plain g.row.A.Denot (by (renaming_said c.renaming.result)) c.args.given.bytes.now _ _ _
    c.in-Err-Record.field-0-is c.in-Err-Record.ensures))
