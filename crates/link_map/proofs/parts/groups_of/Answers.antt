use Rattle.std.proofs.Common.{None, length, replicate}
use Rattle.omf_module.specs.Seen.{group_seen}
use Rattle.link_map.proofs.Grouped.{table-done, table-more}
use Rattle.link_map.proofs.parts.groups_of.Goals as goal

pub loop-index-preserved : goal.loop-index-preserved
loop-index-preserved g c =
    table-more c.args.from.now.groups c.loop-index.index (group_seen c.group.result)
    (replicate (length c.args.from.now.segments) None) c.deref_mut.result.now c.loop-index.table.items
    c.set_groups.new.table c.loop-index.table.len c.loop-index-test.true c.group.ensures c.loop-index.invariant
    c.set_groups.ensures c.deref_mut.ensures.value c.loop-index.table.ok.0

pub returns : goal.returns
returns g c =
    table-done c.args.from.now c.loop-index.index c.loop-index.table.items c.loop-index-test.false
    c.loop-index.invariant
