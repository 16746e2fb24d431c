use Rattle.std.proofs.Common.{inl, inr}
use Rattle.doslink_passes.specs.Sources.{linked_said}
use Rattle.doslink_passes.proofs.Refused.{refused-exit, steps-weaker}
use Rattle.doslink_jobs.proofs.running.link_checked.Goals as goal

pub returns : goal.returns
returns g c =
    let linked = linked_said c.in_ok-linked.linked in
    let (widths, are) = c.in_ok-linked.ensures in
    steps-weaker c.write_program.result
    (λ done (faultless, written). (widths, linked.sources, linked.modules, are, faultless, written))
    (λ fault. inr (widths, linked.sources, linked.modules, are, fault))
    c.write_program.ensures

pub returns-in_err-linked : goal.returns-in_err-linked
returns-in_err-linked g c =
    refused-exit _ c.from_residual.result _ c.from_residual.ensures.1 (λ none. inl none) c.in_err-linked.ensures
