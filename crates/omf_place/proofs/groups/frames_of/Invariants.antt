use Rattle.std.proofs.Common.{◌≡◌, take, map}
use Rattle.omf_module.specs.Module.{Group}
use Rattle.omf_place.specs.Tables.{frame_of_group}
use Rattle.omf_place.specs.inside.OfProgram.{of_program}
use Rattle.omf_place.proofs.groups.frames_of.Given as goal

abbrev pub invariant-loop-index : goal.invariant-loop-index
invariant-loop-index g l =
    l.frames.items
    ≡ map (λ (x : Group). of_program frame_of_group l.groups.program.now x.name) (take l.index l.input.says.now.groups)
