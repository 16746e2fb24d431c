use Rattle.std.proofs.Common.{◌≡◌, take, filter, map}
use Rattle.omf_place.specs.Tables.{grpdefs, is_first_grpdef}
use Rattle.omf_place.specs.inside.Steps.{placed_group}
use Rattle.omf_place.specs.inside.OfProgram.{of_program}
use Rattle.omf_place.proofs.groups.placed_groups.Given as goal

abbrev pub invariant-loop-grpdef : goal.invariant-loop-grpdef
invariant-loop-grpdef g l =
    l.all.items
    ≡ of_program (λ ms A. map (placed_group ms A) (filter (is_first_grpdef ms A) (take l.grpdef-index (grpdefs ms))))
    l.groups.program.now
