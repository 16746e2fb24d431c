use Rattle.std.proofs.Common.{◌∙◌, ap}
use Rattle.omf_place.proofs.Results.{IfOk-map}
use Rattle.omf_order.specs.Parts.{first_parts}
use Rattle.omf_order.specs.Segments.{placed}
use Rattle.omf_order.specs.inside.Held.{segments_view}
use Rattle.omf_order.proofs.planning.opened_parts.Goals as goal

pub returns : goal.returns
returns g c =
    IfOk-map _ _ c.first_parts.result (λ v e. e
    ∙ ap (λ ps. first_parts ps (segments_view c.deref-2.result.now))
    (ap segments_view c.deref.ensures.value ∙ c.in_ok-placed.ensures)
    ∙ ap (λ gs. first_parts (placed c.args.modules.now) gs)
    (ap segments_view c.deref-2.ensures.value ∙ c.in_ok-grouped.ensures)) c.first_parts.ensures
