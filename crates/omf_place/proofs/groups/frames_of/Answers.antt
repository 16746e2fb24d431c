use Rattle.std.proofs.Common.{◌∙◌}
use Rattle.omf_module.specs.Module.{Group}
use Rattle.omf_place.specs.Tables.{frame_of_group}
use Rattle.omf_place.specs.inside.OfProgram.{of_program}
use Rattle.omf_place.proofs.Numbering.{plain-more}
use Rattle.omf_place.proofs.groups.frames_of.Goals as goal

pub loop-index-preserved : goal.loop-index-preserved
loop-index-preserved g c = c.in_ok-push.ensures.items
    ∙ plain-more (λ (x : Group). of_program frame_of_group c.args.groups.now.program.now x.name)
    c.args.input.now.says.now.groups c.loop-index.index _ c.loop-index.frames.items _ c.group.ensures c.frame.ensures
    c.loop-index.invariant
