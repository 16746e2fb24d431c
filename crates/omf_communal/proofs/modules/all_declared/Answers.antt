use Rattle.std.proofs.Common.{◌∙◌, ap, arith, map}
use Rattle.std.proofs.lemmas.List.{take_all}
use Rattle.omf_communal.specs.Modules.{all_declared, module_said}
use Rattle.omf_communal.specs.inside.Met.{declared_said}
use Rattle.omf_communal.proofs.Listing.{module-turn}
use Rattle.omf_communal.proofs.modules.all_declared.Goals as goal

pub loop-index-preserved : goal.loop-index-preserved
loop-index-preserved g c =
    module-turn c.args.modules.now c.loop-index.index c.index-modules-index.result
    (map declared_said c.loop-index.declared.items) _ c.loop-index-test.true c.index-modules-index.is
    c.loop-index.invariant c.in_ok-push_declared.ensures

pub loop-index-init : goal.loop-index-init
loop-index-init g c = ap (map declared_said) c.new-declared.ensures.items

pub returns : goal.returns
returns g c =
    c.loop-index.invariant
    ∙ ap (λ ms. all_declared (map module_said ms)) (take_all c.loop-index.index c.args.modules.now (omega arith))
