use Rattle.std.proofs.Common.{◌∙◌, ap, map, arith}
use Rattle.omf_place.proofs.Results.{IfOk-map}
use Rattle.omf_order.specs.Keys.{arranged, dosseg_key}
use Rattle.omf_order.specs.inside.Held.{part_view, parts_view}
use Rattle.omf_order.proofs.ByKey.{arranged_view, keyed}
use Rattle.std.proofs.lemmas.List.{take_all}
use Rattle.omf_order.proofs.planning.in_dosseg_order.Goals as goal

pub returns : goal.returns
returns g c =
    let key = dosseg_key c.args.adds_bss in
    IfOk-map _ _ c.arranged.result (λ v e. ap parts_view e
    ∙ ap (λ ks. map part_view (map (λ p. p.1) (arranged (λ p. p.0) 6 ks)))
    (c.deref.ensures.value ∙ c.loop-part.invariant
    ∙ ap (keyed part_view key) (take_all c.loop-part.part-index c.args.parts.now (omega arith)))
    ∙ arranged_view part_view key 6 c.args.parts.now) c.arranged.ensures

pub loop-part-init : goal.loop-part-init
loop-part-init g c = c.new-keyed.ensures.items
