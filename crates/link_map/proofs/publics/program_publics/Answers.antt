use Rattle.link_map.specs.inside.Listed.{all_seen}
use Rattle.link_map.proofs.Lines.{module_more}
use Rattle.link_map.proofs.publics.program_publics.Goals as goal

pub loop-module-preserved : goal.loop-module-preserved
loop-module-preserved g c =
    module_more c.args.modules.now c.args.layout.now c.loop-module.module-index c.module-item.result
    (all_seen c.loop-module.listed.items) (all_seen c.push_publics.new.listed.items) c.loop-module-test.true
    c.module-item.is c.loop-module.invariant c.in_ok-push_publics.ensures
