use Rattle.std.proofs.Common.{arith}
use Rattle.std.proofs.lemmas.Grind.{common_steps}
use Rattle.std.proofs.lemmas.List.Edits.{map_over_more}
use Rattle.omf_module.specs.Defaulted.{fixup_in}
use Rattle.omf_module.proofs.defaulting.redirect_fixups.Goals as goal

pub loop-index-preserved : goal.loop-index-preserved
loop-index-preserved c =
    grind (arith, common_steps, map_over_more (fixup_in c.args.meanings.now), c.fixup_in.ensures)
