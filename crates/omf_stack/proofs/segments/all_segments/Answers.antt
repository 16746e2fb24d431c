use Rattle.std.proofs.Common.{◌∙◌, ap, arith, map}
use Rattle.std.proofs.lemmas.List.{take_all}
use Rattle.omf_module.specs.Module.{Module}
use Rattle.omf_module.specs.Seen.{segment_seen}
use Rattle.omf_stack.specs.Stack.{segments}
use Rattle.omf_stack.proofs.Lists.{flat_turn}
use Rattle.omf_stack.proofs.segments.all_segments.Goals as goal

pub loop-each-preserved : goal.loop-each-preserved
loop-each-preserved g c =
    flat_turn (λ (m : Module). m.segments) c.args.modules.now c.loop-each.each-index c.each-item.result
    (map segment_seen c.loop-each.all.items) _ c.loop-each-test.true c.each-item.is c.in_ok-push_segments.ensures
    c.loop-each.invariant

pub loop-each-init : goal.loop-each-init
loop-each-init g c = ap (map segment_seen) c.new-all.ensures.items

pub returns : goal.returns
returns g c = c.loop-each.invariant ∙ ap segments (take_all c.loop-each.each-index c.args.modules.now (omega arith))
