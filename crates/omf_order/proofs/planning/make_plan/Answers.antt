use Rattle.std.proofs.Common.{◌∙◌, ap}
use Rattle.omf_place.proofs.Results.{IfOk-map}
use Rattle.omf_order.specs.Marks.{data_end_names, wanted}
use Rattle.omf_order.specs.Parts.{first_parts}
use Rattle.omf_order.specs.Plan.{plan_of}
use Rattle.omf_order.specs.Segments.{grouped, placed}
use Rattle.omf_order.specs.inside.Held.{names_view}
use Rattle.omf_order.proofs.planning.make_plan.Goals as goal

pub returns : goal.returns
returns g c =
    let modules = c.args.modules.now in
    let order = c.args.order in
    let first = first_parts (placed modules) (grouped modules) in
    let bss_end = names_view c.in_ok-bss_end.bss_end.items in
    IfOk-map _ _ c.plan_of.result (λ p e. e
    ∙ ap (λ f. plan_of order f (names_view c.in_ok-data_end.data_end.items) bss_end) c.in_ok-first.ensures
    ∙ ap (λ d. plan_of order first d bss_end) c.in_ok-data_end.ensures
    ∙ ap (λ b. plan_of order first (wanted c.args.names modules data_end_names) b) c.in_ok-bss_end.ensures)
    c.plan_of.ensures
