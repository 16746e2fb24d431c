use Rattle.std.proofs.Common.{◌+◌, ◌∙◌, ap, map, length}
use Rattle.omf_place.proofs.Results.{IfOk-map}
use Rattle.omf_order.specs.Keys.{arranged, key_by}
use Rattle.omf_order.specs.inside.Held.{part_view, parts_view, selector_view}
use Rattle.omf_order.proofs.ByKey.{arranged_view, keyed}
use Rattle.omf_order.proofs.planning.by_selectors.Goals as goal

pub returns : goal.returns
returns g c =
    let key = key_by (map selector_view c.args.selectors.now) in
    let ps = c.args.parts.now in
    let n = length c.args.selectors.now + 1 in
    IfOk-map _ _ c.arranged.result (λ v e. ap parts_view e
    ∙ ap (λ ks. map part_view (map (λ p. p.1) (arranged (λ p. p.0) n ks)))
    (c.deref.ensures.value ∙ c.in_ok-keyed.ensures
    ∙ ap (λ ss. keyed part_view (key_by (map selector_view ss)) ps) c.in_ok-places.ensures)
    ∙ arranged_view part_view key n ps) c.arranged.ensures
