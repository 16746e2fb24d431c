use Rattle.std.proofs.Common.{map, ap, ◌∙◌, arith}
use Rattle.std.proofs.lemmas.List.{take_all}
use Rattle.omf_order.specs.declared.parts.Part.{Part}
use Rattle.omf_order.proofs.Lists.{map_turn}
use Rattle.omf_order.proofs.planning.part_classes.Goals as goal

pub loop-part-preserved : goal.loop-part-preserved
loop-part-preserved g c =
    map_turn (λ (p : Part). p.class) c.args.parts.now c.loop-part.part-index _ c.loop-part.classes.items _
    c.loop-part-test.true c.in_ok-push.ensures.items c.loop-part.invariant

pub loop-part-init : goal.loop-part-init
loop-part-init g c = c.new-classes.ensures.items

pub returns : goal.returns
returns g c =
    c.loop-part.invariant
    ∙ ap (map (λ (p : Part). p.class)) (take_all c.loop-part.part-index c.args.parts.now (omega arith))
