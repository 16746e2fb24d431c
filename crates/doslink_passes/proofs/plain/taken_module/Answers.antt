use Rattle.doslink_passes.specs.Meanings.{taking_by}
use Rattle.doslink_passes.proofs.Refused.{refused-exit}
use Rattle.doslink_passes.proofs.Taking.{taken-by, taken-so}
use Rattle.doslink_passes.proofs.plain.taken_module.Goals as goal

pub returns-in_err-plain : goal.returns-in_err-plain
returns-in_err-plain g c =
    refused-exit _ c.from_residual.result _ c.from_residual.ensures.1 (λ none. none) c.in_err-plain.ensures

pub returns-in-Some : goal.returns-in-Some
returns-in-Some g c =
    let how = c.args.how.now in
    taken-by (taking_by how.keep_debug how.meanings.now) c.args.made c.in-Some.made c.args.given.bytes.now
    how.comdats.now c.in_ok-plain.plain.module _ c.in_ok-plain.plain.widths _ c.in_ok-plain.ensures c.in-Some.is
    c.started_by.ensures.module c.started_by.ensures.widths

pub returns-in-None : goal.returns-in-None
returns-in-None g c =
    let how = c.args.how.now in
    taken-so (taking_by how.keep_debug how.meanings.now) c.args.made c.args.given.bytes.now how.comdats.now
    c.in_ok-plain.plain.module c.in_ok-plain.plain.widths c.in_ok-plain.ensures c.in-None.is
