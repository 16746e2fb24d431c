use Rattle.std.proofs.Common.{List, arith, map, take, subst, sym}
use Rattle.std.proofs.lemmas.List.{take_all}
use Rattle.omf_search.specs.declared.said.Said.{Said}
use Rattle.omf_search.specs.Taken.{IsTaken}
use Rattle.omf_search.specs.Results.{module_said}
use Rattle.omf_search.proofs.TakenSteps.{length_front, map_more}
use Rattle.omf_search.proofs.taken.Taken.collect.Goals as goal

pub loop-index-preserved : goal.loop-index-preserved
loop-index-preserved g c =
    subst (λ ms. IsTaken c.args.names ms c.add.new.self)
    (sym (map_more module_said c.args.modules.now c.loop-index.index _ c.loop-index-test.true))
    (c.in_ok-add.ensures (map module_said (take c.loop-index.index c.args.modules.now))
    (length_front module_said c.args.modules.now c.loop-index.index c.loop-index-test.true) c.loop-index.invariant)

pub loop-index-init : goal.loop-index-init
loop-index-init g c = c.new-taken.ensures c.args.names

pub returns : goal.returns
returns g c =
    subst (λ (says : List Said). IsTaken c.args.names (map module_said says) c.loop-index.taken)
    (take_all c.loop-index.index c.args.modules.now (omega arith)) c.loop-index.invariant
