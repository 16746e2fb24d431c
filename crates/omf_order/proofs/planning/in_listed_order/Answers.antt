use Rattle.std.proofs.Common.{◌∙◌, ◌+◌, ap, map, length, sym}
use Rattle.std.proofs.lemmas.List.{length-map}
use Rattle.omf_place.proofs.Results.{IfOk-map}
use Rattle.omf_order.specs.Keys.{arranged, key_by}
use Rattle.omf_order.specs.inside.Held.{parts_view, selector_view}
use Rattle.omf_order.proofs.planning.in_listed_order.Goals as goal

pub returns : goal.returns
returns g c =
    let ps = parts_view c.args.parts.now in
    let held = c.deref.result.now in
    IfOk-map _ _ c.by_selectors.result (λ v e. e
    ∙ ap (λ n. arranged (key_by (map selector_view held)) (n + 1) ps) (sym (length-map held selector_view))
    ∙ ap (λ ss. arranged (key_by ss) (length ss + 1) ps)
    (ap (map selector_view) c.deref.ensures.value ∙ c.in_ok-selectors.ensures)) c.by_selectors.ensures
