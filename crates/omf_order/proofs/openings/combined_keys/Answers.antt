use Rattle.std.proofs.Common.{◌∙◌, ◌++◌, [], ◌∷◌, ap, arith, map}
use Rattle.std.proofs.lemmas.List.{take_all}
use Rattle.omf_order.specs.inside.Held.{combining}
use Rattle.omf_order.proofs.Lists.{map_turn}
use Rattle.omf_order.proofs.openings.combined_keys.Goals as goal

pub loop-segment-preserved : goal.loop-segment-preserved
loop-segment-preserved g c =
    map_turn combining c.args.segments.now c.loop-segment.segment-index _ c.loop-segment.keys.items _
    c.loop-segment-test.true
    (c.in_ok-push.ensures.items ∙ ap (λ k. c.loop-segment.keys.items ++ k ∷ []) c.combining_of.ensures)
    c.loop-segment.invariant

pub loop-segment-init : goal.loop-segment-init
loop-segment-init g c = c.new-keys.ensures.items

pub returns : goal.returns
returns g c =
    c.loop-segment.invariant
    ∙ ap (map combining) (take_all c.loop-segment.segment-index c.args.segments.now (omega arith))
