use Rattle.std.proofs.Common.{◌≡◌, take, map}
use Rattle.std.specs.List.{flat_map}
use Rattle.omf_place.specs.Parts.{sites}
use Rattle.omf_place.specs.Tables.{grpdefs_of}
use Rattle.omf_place.specs.inside.Groups.{grpdef_view, reached}
use Rattle.omf_place.specs.inside.OfProgram.{of_program}
use Rattle.omf_place.specs.inside.Program.{input_view}
use Rattle.omf_place.proofs.groups.collect_grpdefs.Given as goal

abbrev pub invariant-loop-input : goal.invariant-loop-input
invariant-loop-input g l =
    map grpdef_view l.all.items
    ≡ map (of_program (λ ms A. reached (sites ms) A) l.program)
    (flat_map grpdefs_of (map input_view (take l.input-index l.program.inputs.items)))
