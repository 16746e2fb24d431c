use Rattle.std.proofs.Common.{rules, ◌<◌, [], length}
use Rattle.doslib_names.specs.Names.{says}
use Rattle.doslib_names.specs.Said.{held_said}
use Rattle.doslib_names.proofs.Lists.{mapped-all, says-more}
use Rattle.doslib_names.proofs.held.all_names.Goals as goal

pub loop-held-preserved : goal.loop-held-preserved
loop-held-preserved g c =
    let here : c.loop-held.held-index < length c.args.modules.now = search rules in
    let e = c.in_ok-module_names.ensures in
    says-more c.args.modules.now c.loop-held.held-index _ c.loop-held.names.items _ c.in_ok-module_names.field-0 here
    c.in_ok-push.ensures.items (e.needed, e.externals, e.offered, e.communals, e.aliases) c.loop-held.invariant

pub returns : goal.returns
returns g c =
    mapped-all (λ h. says (held_said h)) c.args.modules.now c.loop-held.held-index _ [] c.loop-held-test.false
    c.loop-held.invariant
