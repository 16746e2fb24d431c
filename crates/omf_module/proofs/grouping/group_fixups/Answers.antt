use Rattle.std.proofs.Common.{arith}
use Rattle.std.proofs.lemmas.Grind.{common_steps}
use Rattle.std.proofs.lemmas.List.Edits.{map_over_more}
use Rattle.omf_module.specs.Grouped.{fixup_in}
use Rattle.omf_module.proofs.grouping.group_fixups.Goals as goal

pub loop-index-preserved : goal.loop-index-preserved
loop-index-preserved c =
    grind (arith, common_steps, map_over_more (fixup_in c.args.joined.now c.args.group c.args.here), c.fixup_in.ensures)
