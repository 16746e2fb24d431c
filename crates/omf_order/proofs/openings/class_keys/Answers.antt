use Rattle.std.proofs.Common.{map, ap, ◌∙◌, arith}
use Rattle.std.proofs.lemmas.List.{take_all}
use Rattle.omf_module.specs.declared.lookups.Segment.{Segment}
use Rattle.omf_order.proofs.Lists.{map_turn}
use Rattle.omf_order.proofs.openings.class_keys.Goals as goal

pub loop-segment-preserved : goal.loop-segment-preserved
loop-segment-preserved g c =
    map_turn (λ (s : Segment). s.class) c.args.segments.now c.loop-segment.segment-index _ c.loop-segment.keys.items _
    c.loop-segment-test.true c.in_ok-push.ensures.items c.loop-segment.invariant

pub loop-segment-init : goal.loop-segment-init
loop-segment-init g c = c.new-keys.ensures.items

pub returns : goal.returns
returns g c =
    c.loop-segment.invariant
    ∙ ap (map (λ (s : Segment). s.class))
    (take_all c.loop-segment.segment-index c.args.segments.now (omega arith))
