use Rattle.std.proofs.Common.{map, ap, ◌∙◌, arith}
use Rattle.std.proofs.lemmas.List.{take_all}
use Rattle.omf_communal.specs.Modules.{module_said}
use Rattle.doslink_passes.proofs.Lists.{map-step}
use Rattle.doslink_passes.specs.inside.Declaring.{declared_said}
use Rattle.doslink_passes.proofs.Declaring.{declaring-one}
use Rattle.doslink_passes.proofs.communals.declarings.Goals as goal

pub loop-each-init : goal.loop-each-init
loop-each-init g c = ap (map module_said) c.new-all.ensures.items

pub loop-each-preserved : goal.loop-each-preserved
loop-each-preserved g c =
    map-step module_said declared_said c.args.declared.now c.loop-each.each-index c.each-item.result
    c.loop-each.all.items c.push.new.self.items _ c.loop-each-test.true c.in_ok-push.ensures.items
    (declaring-one c.each-item.result c.as_slice.result.now c.as_slice.ensures.value ∙ ap declared_said c.each-item.is)
    c.loop-each.invariant

pub returns : goal.returns
returns g c =
    c.loop-each.invariant ∙ ap (map declared_said) (take_all c.loop-each.each-index c.args.declared.now (omega arith))
