use Rattle.std.proofs.Common.{◌∙◌}
use Rattle.omf_frame.proofs.Told.{Wrote-failed}
use Rattle.link_map.specs.Map.{group_line}
use Rattle.omf_map.proofs.MapLemmas.{reads_cut, read_more}
use Rattle.link_map.proofs.map.put_all_groups.Goals as goal

pub returns-in_err-put_group : goal.returns-in_err-put_group
returns-in_err-put_group g c =
    let loop = c.loop-index in
    Wrote-failed _ _ _ _ _ _ _
    (reads_cut (group_line c.args.modules.now) c.args.layout.now.groups loop.index c.group.result _ _ _ _ _ _
    c.group.ensures loop.invariant.appended loop.invariant.count
    c.in_err-put_group.ensures) c.from_residual.ensures.1

pub loop-index-preserved : goal.loop-index-preserved
loop-index-preserved g c =
    let loop = c.loop-index in
    record {
      count = c.in_ok-put_group.ensures.1 ∙ loop.invariant.count;
      appended =
          read_more (group_line c.args.modules.now) c.args.layout.now.groups loop.index c.group.result _ _ _
          c.group.ensures loop.invariant.appended c.in_ok-put_group.ensures.0;
    }
