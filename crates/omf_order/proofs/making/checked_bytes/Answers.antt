use Rattle.std.proofs.Common.{arith}
use Rattle.std.proofs.lemmas.List.{length-map}
use Rattle.std.proofs.lemmas.Result.{err_from_is_err_and}
use Rattle.omf_order.specs.Cleared.{data_in_bss}
use Rattle.omf_order.specs.inside.Held.{part_view, plan_view}
use Rattle.omf_order.proofs.Refusing.{refused_by}
use Rattle.omf_order.proofs.making.checked_bytes.Goals as goal

pub returns-in_err-check_data : goal.returns-in_err-check_data
returns-in_err-check_data g c =
    let p = err_from_is_err_and c.from_residual.result c.from_residual.ensures.1 in
    rw (p.1, p.2)
    (refused_by (plan_view c.args.plan.now) (data_in_bss c.args.modules.now (plan_view c.args.plan.now)) _
    (let l = length-map c.args.plan.now.parts.items part_view in omega (arith, l)) c.in_err-check_data.ensures)

pub planned_bytes-requires : goal.planned_bytes-requires
planned_bytes-requires g c =
    c.requires (let l = length-map c.args.plan.now.parts.items part_view in omega (arith, l))
