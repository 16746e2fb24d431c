use Rattle.std.proofs.Common.{◌∙◌}
use Rattle.omf_place.proofs.RowSteps.{row-more}
use Rattle.omf_place.proofs.rows.segments_of.Goals as goal

pub loop-index-preserved : goal.loop-index-preserved
loop-index-preserved g c =
    c.in_ok-push.ensures.items
    ∙ row-more c.args.input.now.sites.now c.args.input.now.stands.now c.loop-index.index _ _ c.loop-index.row.items _
    c.requires c.loop-index-test.true c.placed_segment.ensures c.loop-index.invariant
