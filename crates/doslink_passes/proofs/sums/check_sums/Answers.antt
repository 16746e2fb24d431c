use Rattle.std.proofs.Common.{Some, None}
use Rattle.doslink_passes.specs.Request.{names_of}
use Rattle.doslink_passes.specs.inside.Narrowed.{TellsSums}
use Rattle.doslink_passes.proofs.Refused.{OnInput-holds, refused-exit}
use Rattle.doslink_passes.proofs.Summing.{all-fit, none-narrow, one-over, told-sums}
use Rattle.doslink_passes.proofs.sums.check_sums.Goals as goal

pub returns-in_err-at : goal.returns-in_err-at
returns-in_err-at g c =
    refused-exit _ c.from_residual.result _ c.from_residual.ensures.1 (λ none. absurd none) c.in_err-at.ensures

pub returns-in-Some : goal.returns-in-Some
returns-in-Some g c =
    let n = c.find_narrowed-narrowed.result in
    let names = names_of c.args.request.now.job.now.ignore_case in
    let told : TellsSums n names c.args.linked.now.modules.items (Some c.in-Some.at) =
    told-sums n names _ c.args.linked.now.modules.items _ (Some c.in-Some.at) _ c.names.ensures c.deref.ensures.value c.in-Some.is
    c.in_ok-at.ensures in
    OnInput-holds c.stop_after.result
    (one-over n c.args.widths.now names c.args.linked.now.modules.items c.find_narrowed-narrowed.ensures.start told)

pub returns-in-None : goal.returns-in-None
returns-in-None g c =
    let n = c.find_narrowed-narrowed.result in
    let names = names_of c.args.request.now.job.now.ignore_case in
    let told : TellsSums n names c.args.linked.now.modules.items None =
    told-sums n names _ c.args.linked.now.modules.items _ None _ c.names.ensures c.deref.ensures.value c.in-None.is
    c.in_ok-at.ensures in
    all-fit n c.args.widths.now names c.args.linked.now.modules.items c.find_narrowed-narrowed.ensures.start told
