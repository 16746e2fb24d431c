use Rattle.std.proofs.Common.{◌∙◌, ◌++◌, [], ◌∷◌, ap, arith, map}
use Rattle.std.proofs.lemmas.List.{take_all}
use Rattle.omf_order.specs.inside.Held.{part_key}
use Rattle.omf_order.proofs.Lists.{map_turn}
use Rattle.omf_order.proofs.cleared.part_keys.Goals as goal

pub loop-part-preserved : goal.loop-part-preserved
loop-part-preserved g c =
    map_turn part_key c.args.parts.now c.loop-part.part-index _ c.loop-part.keys.items _ c.loop-part-test.true
    (c.in_ok-push.ensures.items ∙ ap (λ k. c.loop-part.keys.items ++ k ∷ []) c.part_key.ensures)
    c.loop-part.invariant

pub loop-part-init : goal.loop-part-init
loop-part-init g c = c.new-keys.ensures.items

pub returns : goal.returns
returns g c =
    c.loop-part.invariant
    ∙ ap (map part_key) (take_all c.loop-part.part-index c.args.parts.now (omega arith))
